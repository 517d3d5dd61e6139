use Rattle.std.proofs.Common.{ℕ, ◌≡◌, ◌<◌, ◌≤◌, length}
use Rattle.al_edge.specs.Totals.{IsCostAdded, number_at}
use Rattle.al_edge.proofs.weights.add_all.Given as goal

abbrev pub invariant-loop-number : goal.invariant-loop-number
invariant-loop-number l = record {
  long : length l.totals ≡ 14;
  added : (k : ℕ) → k < l.number → IsCostAdded (number_at l.initial.totals k) (number_at l.costs k)
      (number_at l.totals k);
  left : (k : ℕ) → l.number ≤ k → number_at l.totals k ≡ number_at l.initial.totals k;
}
