use Rattle.std.proofs.Common.{get_or, refl, ◌∙◌, arith}
use Rattle.vc_live.proofs.Steps.{no_role, named_none, named_at, named_more, put_in}
use Rattle.vc_live.proofs.equations.insert_all.Goals as goal

pub loop-role-init : goal.loop-role-init
loop-role-init c = record { words = refl; members = λ v. rw (named_none v) refl }

pub insert-requires : goal.insert-requires
insert-requires c = omega (
  arith,
  c.requires (get_or c.args.roles.now c.loop-role.role-index no_role).var.0
      (named_at c.args.roles.now c.loop-role.role-index no_role c.loop-role-test.true),
)

pub loop-role-preserved : goal.loop-role-preserved
loop-role-preserved c = record {
  words = c.insert.ensures.words ∙ c.loop-role.invariant.words;
  members = λ v. rw (
    c.insert.ensures.members v,
    named_more c.args.roles.now c.loop-role.role-index
        no_role c.loop-role-test.true v,
  ) (put_in _ _ _ _ (c.loop-role.invariant.members v));
}
