use Rattle.std.proofs.Common.{ℕ, ◌≡◌, ◌<◌, ◌≤◌, length}
use Rattle.net_path.specs.Rests.{Terrain, AreRows}
use Rattle.net_path.specs.Ways.{AreDebts, step_by}
use Rattle.net_path.specs.Rows.{costs_at, slack_at, IsRowWithin, IsGround, AreCells}
use Rattle.net_path.proofs.rows.pay_backward.Given as goal

abbrev pub invariant-loop-at : goal.invariant-loop-at
invariant-loop-at l = record {
  within : l.at < length l.rows;
  left : (k : ℕ) → k < l.at → costs_at l.rows k ≡ costs_at l.initial.rows k;
  small : IsRowWithin (slack_at (length l.rows) l.at) (costs_at l.rows l.at);
  debts : (k : ℕ) → l.at ≤ k → k < length l.rows → AreDebts (costs_at l.rows k);
  paid : (t : Terrain) → IsGround (step_by l.steps) l.first (length l.rows) t →
      AreCells t l.initial.rows →
      AreRows t (costs_at l.rows) (slack_at (length l.rows)) (length l.rows) l.at;
}

abbrev pub decreases-loop-at : goal.decreases-loop-at
decreases-loop-at l = l.at
