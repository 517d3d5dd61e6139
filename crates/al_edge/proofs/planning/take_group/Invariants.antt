use Rattle.std.proofs.Common.{ℕ, ◌≡◌, ◌+◌, min, count_by, take}
use Rattle.net_form.specs.InUse.{mark}
use Rattle.net_form.specs.Rooms.{IsRoomOf}
use Rattle.al_edge.specs.GroupEnds.{ends_of}
use Rattle.al_edge.specs.OpenPlaces.{comes_there}
use Rattle.al_edge.proofs.planning.take_group.Given as goal

abbrev pub invariant-loop-end : goal.invariant-loop-end
invariant-loop-end l = record {
  room : IsRoomOf l.net l.used;
  marks : (n r : ℕ) →
      mark l.used.regs n r ≡ min 1 (mark l.initial.used.regs n r + count_by
      (comes_there l.net n r l.place) (take l.end-index (ends_of l.net l.group)));
}
