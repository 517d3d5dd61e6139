use Rattle.std.proofs.Common.{◌≡◌, take}
use Rattle.pra_packed.proofs.packed.Packed.of.Given as goal

abbrev pub invariant-loop-list : goal.invariant-loop-list
invariant-loop-list g l = l.packed ≡ take l.list-index l.lists
