use Rattle.std.proofs.Common.{◌≡◌, ◌≤◌, ◌-◌, ℕ, [], length}
use Rattle.pl_build.specs.Layers.{layer}
use Rattle.pl_build.proofs.layers.empty_layers.Given as goal

abbrev pub invariant-loop-alloc : goal.invariant-loop-alloc
invariant-loop-alloc l = record {
  few : length l.layers.items ≤ l.total;
  empty : (n : ℕ) → layer l.layers.items n ≡ [];
}

abbrev pub decreases-loop-alloc : goal.decreases-loop-alloc
decreases-loop-alloc l = l.total - length l.layers.items
