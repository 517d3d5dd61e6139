use Rattle.std.proofs.Common.{ℕ, ◌≡◌, [], length, get_or}
use Rattle.al_kick.proofs.found.write_path.Given as goal

abbrev pub invariant-loop-layer : goal.invariant-loop-layer
invariant-loop-layer l = record {
  many : length l.paths ≡ length l.initial.paths;
  long : (s : ℕ) → length (get_or l.paths s []) ≡ length (get_or l.initial.paths s []);
}
