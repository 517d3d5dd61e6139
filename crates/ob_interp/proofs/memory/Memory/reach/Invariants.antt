use Rattle.std.proofs.Common.{◌≡◌, ◌+◌, ◌-◌, length}
use Rattle.ob_interp.specs.Kept.{store_in}
use Rattle.ob_interp.proofs.memory.Memory.reach.Given as goal

abbrev pub invariant-loop-alloc : goal.invariant-loop-alloc
invariant-loop-alloc l = store_in l.self ≡ store_in l.initial.self

abbrev pub decreases-loop-alloc : goal.decreases-loop-alloc
decreases-loop-alloc l = (l.depth + 1) - length l.self.layers.items
