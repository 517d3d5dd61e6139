use Rattle.std.proofs.Common.{get_or, refl, sym, ◌∙◌, arith}
use Rattle.vc_live.specs.Sets.{contains}
use Rattle.vc_live.proofs.Steps.{no_role, named_none, named_at, named_more, taken_out, left_in}
use Rattle.vc_live.proofs.Steps.{nothing_out, at_same}
use Rattle.vc_live.proofs.equations.remove_all.Goals as goal
use Rattle.vc_live.proofs.equations.remove_all.Goals.{then-not-contains, else-not-contains}

pub loop-role-init : goal.loop-role-init
loop-role-init c = record { words = refl; members = λ v. rw (named_none v) (nothing_out _ _) }

pub remove-requires : goal.remove-requires
remove-requires c = omega (
  arith,
  c.requires (get_or c.args.roles.now c.loop-role.role-index no_role).var.0
      (named_at c.args.roles.now c.loop-role.role-index no_role c.loop-role-test.true),
)

pub loop-role-preserved : goal.loop-role-preserved
loop-role-preserved c = elim c.if-not-contains.branch [
  | then-not-contains w ↦ rw w.set-is (record {
    words = w.remove.ensures.words ∙ c.loop-role.invariant.words;
    members = λ v. rw (
      w.remove.ensures.members v,
      named_more c.args.roles.now c.loop-role.role-index no_role c.loop-role-test.true v,
    )
        (taken_out _ _ _ _ _ (c.loop-role.invariant.members v)
        (at_same (contains c.args.constants.now)
        (get_or c.args.roles.now c.loop-role.role-index no_role).var.0 v _
        (sym w.if-not-contains.ensures)));
  })
  | else-not-contains w ↦ rw w.set-is (record {
    words = c.loop-role.invariant.words;
    members = λ v. rw (named_more c.args.roles.now c.loop-role.role-index no_role
        c.loop-role-test.true v)
        (left_in _ _ _ _ _ (c.loop-role.invariant.members v)
        (at_same (contains c.args.constants.now)
        (get_or c.args.roles.now c.loop-role.role-index no_role).var.0 v _
        (sym w.if-not-contains.ensures)));
  })
]
