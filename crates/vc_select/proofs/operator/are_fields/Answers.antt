use Rattle.std.proofs.Common.{sym, ◌∙◌}
use Rattle.vc_select.proofs.NeedsOf.{safe_next, safe_index, safe_done}
use Rattle.vc_select.proofs.Safety.{fields_step, fields_done}
use Rattle.vc_select.proofs.operator.are_fields.Goals as goal

pub loop-step-preserved : goal.loop-step-preserved
loop-step-preserved c = (
  λ f. c.loop-step.invariant.0
      (fields_step c.args.steps.now c.loop-step.step-index c.step-item.result c.in-Field.field-0
      c.loop-step-test.true c.step-item.is c.in-Field.is f),
  c.loop-step.invariant.1 ∙ safe_next c.args.steps.now c.loop-step.step-index c.in-Field.field-0
      c.step-item.result c.loop-step-test.true c.step-item.is c.in-Field.is,
)

pub returns-in-Index-clause-is : goal.returns-in-Index-clause-is
returns-in-Index-clause-is c =
    sym (c.loop-step.invariant.1 ∙ safe_index c.args.steps.now c.loop-step.step-index
    c.in-Index.field-0 c.step-item.result c.loop-step-test.true c.step-item.is c.in-Index.is)

pub returns-clause-fields : goal.returns-clause-fields
returns-clause-fields c = λ e. c.loop-step.invariant.0
    (fields_done c.args.steps.now c.loop-step.step-index c.loop-step-test.false)

pub returns-clause-is : goal.returns-clause-is
returns-clause-is c = sym (c.loop-step.invariant.1
    ∙ safe_done c.args.steps.now c.loop-step.step-index c.loop-step-test.false)
