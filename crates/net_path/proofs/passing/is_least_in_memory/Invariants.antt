use Rattle.std.proofs.Common.{ℕ, ◌<◌, ◌≤ℤ◌}
use Rattle.net_path.specs.Ways.{at}
use Rattle.net_path.proofs.passing.is_least_in_memory.Given as goal

abbrev pub invariant-loop-p : goal.invariant-loop-p
invariant-loop-p l = (k : ℕ) → k < l.p → at l.row.costs 6 ≤ℤ at l.row.costs k
