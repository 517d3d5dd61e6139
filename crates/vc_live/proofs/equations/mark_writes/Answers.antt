use Rattle.std.proofs.Common.{inr, refl, sym, ◌∙◌}
use Rattle.vc_live.proofs.Steps.{writes_named}
use Rattle.vc_live.proofs.equations.mark_writes.Goals as goal

pub insert_all-requires : goal.insert_all-requires
insert_all-requires c = rw c.as_slice.ensures.value
    (λ v named. c.requires v
    (inr (sym (writes_named c.operands-marked.result c.args.instr.now c.operands-marked.ensures v)
    ∙ named)))

pub returns-clause-members : goal.returns-clause-members
returns-clause-members c =
    λ v. rw (
      c.insert_all.ensures.members v,
      c.as_slice.ensures.value,
      writes_named c.operands-marked.result c.args.instr.now c.operands-marked.ensures v,
    ) refl
