use Rattle.std.proofs.Common.{◌≡◌, ◌+◌, length, take}
use Rattle.ia_emit.specs.Code.{size}
use Rattle.ia_emit.proofs.Sizes.{PlacedSoFar}
use Rattle.ia_emit.proofs.layout.places.Given as goal

abbrev pub invariant-loop-item : goal.invariant-loop-item
invariant-loop-item l = record {
  end : l.end ≡ l.fn.at + size (take l.item-index l.items);
  count : length l.places.items ≡ l.item-index;
  places : PlacedSoFar l.items l.fn.at l.item-index l.places.items;
}
