use Rattle.std.proofs.Common.{◌≡◌, true, inr, List, sym, ap, ◌∙◌}
use Rattle.pra_list.proofs.Truths.{true_false}
use Rattle.pra_base.specs.Operands.{writes}
use Rattle.vc_code.specs.declared.row.Role.{Role}
use Rattle.vc_same.specs.Pure.{is_pure}
use Rattle.vc_live.specs.Equations.{named_in}
use Rattle.vc_live.proofs.Steps.{writes_named}
use Rattle.vc_tidy.proofs.Marking.{any_none, any_some}
use Rattle.vc_tidy.proofs.marks.is_needed.Goals as goal

pub any_marked-requires : goal.any_marked-requires
any_marked-requires c = rw c.as_slice.ensures.value
    (λ v named. c.requires v
    (inr (sym (writes_named c.operands-row.result c.args.instr.now c.operands-row.ensures v)
    ∙ named)))

pub returns-clause-needed : goal.returns-clause-needed
returns-clause-needed c = λ marked pure unneeded.
    let s = any_some c.args.marks.now c.as_slice.result.now (sym c.any_marked.ensures ∙ marked) in
    let named : writes c.args.instr.now s.0 ≡ true =
    sym (ap (λ (rs : List Role). named_in rs s.0) c.as_slice.ensures.value
    ∙ writes_named c.operands-row.result c.args.instr.now c.operands-row.ensures s.0) ∙ s.1 in
    true_false _ s.2 (unneeded s.0 named)

pub returns-clause-dead : goal.returns-clause-dead
returns-clause-dead c = λ unmarked.
    let pure : is_pure c.args.instr.now ≡ true = cc in (
      pure,
      λ v written. any_none c.args.marks.now c.as_slice.result.now v
          (sym c.any_marked.ensures ∙ unmarked)
          (ap (λ (rs : List Role). named_in rs v) c.as_slice.ensures.value
          ∙ writes_named c.operands-row.result c.args.instr.now c.operands-row.ensures v
          ∙ written),
    )
