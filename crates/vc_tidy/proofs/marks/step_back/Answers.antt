use Rattle.std.proofs.Common.{inl, inr, List, sym, ap, ◌∙◌}
use Rattle.vc_code.specs.declared.row.Role.{Role}
use Rattle.vc_live.specs.Equations.{named_in}
use Rattle.vc_live.proofs.Steps.{reads_named, writes_named}
use Rattle.vc_tidy.proofs.Marking.{step_marks}
use Rattle.vc_tidy.proofs.marks.step_back.Goals as goal

pub mark_all-requires : goal.mark_all-requires
mark_all-requires c = rw c.as_slice.ensures.value
    (λ v named. c.requires v
    (inr (sym (writes_named c.operands-row.result c.args.instr.now c.operands-row.ensures v)
    ∙ named)))

pub mark_all-requires-2 : goal.mark_all-requires-2
mark_all-requires-2 c = rw (c.as_slice-2.ensures.value, c.mark_all.ensures.count)
    (λ v named. c.requires v
    (inl (sym (reads_named c.operands-row.result c.args.instr.now c.operands-row.ensures v)
    ∙ named)))

pub returns-clause-marks : goal.returns-clause-marks
returns-clause-marks c = λ v.
    step_marks _ _ _ _ _ _ _
    (c.mark_all.ensures.marks v)
    (ap (λ (rs : List Role). named_in rs v) c.as_slice.ensures.value
    ∙ writes_named c.operands-row.result c.args.instr.now c.operands-row.ensures v)
    (c.mark_all-2.ensures.marks v)
    (ap (λ (rs : List Role). named_in rs v) c.as_slice-2.ensures.value
    ∙ reads_named c.operands-row.result c.args.instr.now c.operands-row.ensures v)
