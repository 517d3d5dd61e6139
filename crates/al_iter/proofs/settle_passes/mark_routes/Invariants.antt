use Rattle.net_form.specs.InUse.{StandsFor}
use Rattle.net_form.specs.Rooms.{IsRoomOf}
use Rattle.al_laws.specs.Parts.{part}
use Rattle.al_iter.proofs.SettleMarks.{below}
use Rattle.al_iter.proofs.settle_passes.mark_routes.Given as goal

abbrev pub invariant-loop-strand : goal.invariant-loop-strand
invariant-loop-strand l = record {
  room : IsRoomOf l.net l.taken;
  marked : StandsFor l.net l.taken (part l.net (below l.strand) l.routes);
}
