use Rattle.std.proofs.Common.{◌≡◌, take}
use Rattle.ia_emit.proofs.emission.listed.Given as goal

abbrev pub invariant-loop-item : goal.invariant-loop-item
invariant-loop-item l = l.list.items ≡ take l.item-index l.items
