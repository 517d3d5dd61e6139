use Rattle.std.proofs.Common.{inl, inr, refl, sym, ◌∙◌}
use Rattle.vc_live.proofs.Steps.{reads_named, writes_named, before_of}
use Rattle.vc_live.proofs.equations.step_back.Goals as goal

pub remove_all-requires : goal.remove_all-requires
remove_all-requires c = rw c.as_slice.ensures.value
    (λ v named. c.requires v
    (inr (sym (writes_named c.operands-row.result c.args.instr.now c.operands-row.ensures v)
    ∙ named)))

pub insert_all-requires : goal.insert_all-requires
insert_all-requires c = rw (c.as_slice-2.ensures.value, c.remove_all.ensures.words)
    (λ v named. c.requires v
    (inl (sym (reads_named c.operands-row.result c.args.instr.now c.operands-row.ensures v)
    ∙ named)))

pub returns-clause-members : goal.returns-clause-members
returns-clause-members c = λ v. rw (
  before_of _ _ _ v,
  c.insert_all.ensures.members v,
  c.as_slice-2.ensures.value,
  reads_named c.operands-row.result c.args.instr.now c.operands-row.ensures v,
  c.remove_all.ensures.members v,
  c.as_slice.ensures.value,
  writes_named c.operands-row.result c.args.instr.now c.operands-row.ensures v,
) refl
