use Rattle.net_form.specs.Rooms.{IsRoomOf}
use Rattle.al_edge.specs.HomePaths.{IsSoFar}
use Rattle.al_edge.proofs.routing.home.Given as goal

abbrev pub invariant-loop-strand : goal.invariant-loop-strand
invariant-loop-strand l = record {
  taken : IsRoomOf l.net l.taken;
  paths : IsSoFar l.net l.taken.regs l.paths l.strand;
}
