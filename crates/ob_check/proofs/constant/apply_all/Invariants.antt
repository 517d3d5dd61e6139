use Rattle.std.proofs.Common.{◌≡◌, vec_len}
use Rattle.ob_check.specs.Pending.{all_applied}
use Rattle.ob_check.proofs.constant.apply_all.Given as goal

abbrev pub invariant-loop-one : goal.invariant-loop-one
invariant-loop-one l =
    all_applied l.pending.items l.worth ≡ all_applied l.initial.pending.items l.initial.worth

abbrev pub decreases-loop-one : goal.decreases-loop-one
decreases-loop-one l = vec_len l.pending
