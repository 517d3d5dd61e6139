use Rattle.std.proofs.Common.{refl, sym, ◌∙◌, ◌-◌, arith}
use Rattle.std.proofs.lemmas.Option.{slice_get-get_or}
use Rattle.vc_live.proofs.Steps.{through_end, through_more, before-same}
use Rattle.vc_live.proofs.equations.go_back.Goals as goal

pub loop-left-init : goal.loop-left-init
loop-left-init c = record {
  within = omega arith;
  words = refl;
  members =
      λ v. sym (through_end _ c.args.code.now _ v _ (omega arith));
}

pub step_back-requires : goal.step_back-requires
step_back-requires c = λ v named. rw c.loop-left.invariant.words
    (c.requires (c.loop-left.left - 1) _
    (slice_get-get_or c.args.code.now (c.loop-left.left - 1) _ (omega arith)) v named)

pub loop-left-preserved : goal.loop-left-preserved
loop-left-preserved c = record {
  within = omega arith;
  words = c.step_back.ensures.words ∙ c.loop-left.invariant.words;
  members = λ v. c.step_back.ensures.members v ∙ before-same _ _ _ _ v
      (c.loop-left.invariant.members v)
      ∙ sym (through_more _ c.args.code.now (c.loop-left.left - 1) c.loop-left.left _ (omega arith)
      (omega arith) _ v);
}
