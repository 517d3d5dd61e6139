use Rattle.std.proofs.Common.{ℕ, ◌≡◌, ◌<◌, ◌≤◌, cond, get_or, pos, Some, None, false, length}
use Rattle.al_edge.proofs.weights.of_open.Given as goal

abbrev pub invariant-loop-number : goal.invariant-loop-number
invariant-loop-number l = record {
  long : length l.weights ≡ 14;
  made : (k : ℕ) → k < l.number → get_or l.weights k None
      ≡ cond (get_or l.opens k false) (Some (get_or l.totals k (pos 0))) None;
  left : (k : ℕ) → l.number ≤ k → get_or l.weights k None ≡ None;
}
