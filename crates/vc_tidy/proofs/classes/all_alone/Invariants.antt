use Rattle.std.proofs.Common.{◌≡◌, ℕ, ◌<◌, [], ◌∷◌, length}
use Rattle.vc_tidy.specs.Joined.{name, group_of}
use Rattle.vc_tidy.proofs.classes.all_alone.Given as goal

abbrev pub invariant-loop-v : goal.invariant-loop-v
invariant-loop-v l = record {
  count : length l.names.items ≡ l.v;
  groups_count : length l.groups.items ≡ l.v;
  names : (u : ℕ) → name l.names.items u ≡ u;
  groups : (u : ℕ) → u < l.v → group_of l.groups.items u ≡ u ∷ [];
}
