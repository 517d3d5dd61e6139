use Rattle.std.proofs.Common.{get_or, refl, ◌∙◌, arith}
use Rattle.std.proofs.lemmas.List.{length-set}
use Rattle.vc_live.specs.Rows.{live_at}
use Rattle.vc_live.proofs.Steps.{no_role, named_none, named_at, named_more}
use Rattle.vc_tidy.proofs.Marking.{marked_set, mark_more, same_at}
use Rattle.vc_tidy.proofs.marks.mark_live.Goals as goal

pub loop-role-init : goal.loop-role-init
loop-role-init c = record { count = refl; marks = λ v. rw (named_none v) refl }

pub index_mut-requires : goal.index_mut-requires
index_mut-requires c = omega (
  arith,
  c.requires (get_or c.args.roles.now c.loop-role.role-index no_role).var.0
      (named_at c.args.roles.now c.loop-role.role-index no_role c.loop-role-test.true),
  c.loop-role.invariant.count,
)

pub loop-role-preserved : goal.loop-role-preserved
loop-role-preserved c =
    let i = (get_or c.args.roles.now c.loop-role.role-index no_role).var.0 in
    record {
      count = length-set c.loop-role.marks.items i c.at.result ∙ c.loop-role.invariant.count;
      marks = λ v.
          marked_set c.loop-role.marks.items i v c.at.result
          (omega (
            arith,
            c.requires i
                (named_at c.args.roles.now c.loop-role.role-index no_role c.loop-role-test.true),
            c.loop-role.invariant.count,
          ))
          ∙ rw (named_more c.args.roles.now c.loop-role.role-index no_role c.loop-role-test.true v)
          (mark_more _ _ c.at.result (live_at c.args.liveness.now v c.args.block.0 c.args.layer) _ _
          (c.loop-role.invariant.marks v)
          (λ e. c.at.ensures ∙ same_at
          (λ u. live_at c.args.liveness.now u c.args.block.0 c.args.layer) i v e));
    }
