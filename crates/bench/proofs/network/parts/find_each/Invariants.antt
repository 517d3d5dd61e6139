-- the room stays one for this network
use Rattle.net_path.specs.Desk.{IsReservedFor}
use Rattle.bench.proofs.network.parts.find_each.Given as goal

abbrev pub invariant-loop-strand : goal.invariant-loop-strand
invariant-loop-strand g l = IsReservedFor l.net l.room
