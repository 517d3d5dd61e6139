use Rattle.std.proofs.Common.{◌≡◌, ℕ, ◌<◌, ◌≤◌, nat_eq, if◌then◌else◌, length}
use Rattle.vc_tidy.specs.Joined.{name}
use Rattle.vc_tidy.proofs.classes.rename.Given as goal

abbrev pub invariant-loop-v : goal.invariant-loop-v
invariant-loop-v l = record {
  count : length l.names.items ≡ length l.initial.names.items;
  done : (u : ℕ) → u < l.v → name l.names.items u ≡
      (if nat_eq (name l.initial.names.items u) l.from then l.to else name l.initial.names.items u);
  rest : (u : ℕ) → l.v ≤ u → name l.names.items u ≡ name l.initial.names.items u;
}
