use Rattle.std.proofs.Common.{ℕ, ◌≡◌, ◌<◌, ◌≤◌}
use Rattle.net_path.specs.Ways.{at}
use Rattle.net_path.specs.Rows.{IsPaid}
use Rattle.net_path.proofs.rows.pay_across.Given as goal

abbrev pub invariant-loop-p : goal.invariant-loop-p
invariant-loop-p g l = record {
  paid : (k : ℕ) → k < l.p →
      IsPaid (at l.initial.cells.costs k) (at l.behind.costs k) (at l.cells.costs k);
  left : (k : ℕ) → l.p ≤ k → at l.cells.costs k ≡ at l.initial.cells.costs k;
}
