-- What is pending makes of the operand that is left what the whole is worth, and that operand is
-- has no more operators than the whole.
use Rattle.std.proofs.Common.{◌≡◌, ◌≤◌}
use Rattle.ob_syntax.specs.Types.{worth}
use Rattle.ob_check.specs.Pending.{all_applied}
use Rattle.ob_check.proofs.Worths.{operators}
use Rattle.ob_check.proofs.constant.+worth.Given as goal

abbrev pub decreases-worth : goal.decreases-worth
decreases-worth l = operators l.expr.now

abbrev pub invariant-loop-left : goal.invariant-loop-left
invariant-loop-left l = record {
  same : all_applied l.pending.items (worth l.left) ≡ worth l.expr;
  no_more : operators l.left ≤ operators l.expr;
}
