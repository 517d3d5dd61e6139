use Rattle.std.proofs.Common.{ℕ, ◌<◌, ◌≤◌, length}
use Rattle.net_dual.specs.Paths.{path_in}
use Rattle.net_path.proofs.family.longest.Given as goal

abbrev pub invariant-loop-at : goal.invariant-loop-at
invariant-loop-at l = (s : ℕ) → s < l.at → length (path_in l.family s) ≤ l.most
