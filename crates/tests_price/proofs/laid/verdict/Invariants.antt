use Rattle.net_form.specs.Rooms.{IsRoomOf}
use Rattle.net_path.specs.Desk.{IsReservedFor}
use Rattle.tests_price.proofs.laid.verdict.Given as goal

-- there is room for each strand, and a mark for all of the network
abbrev pub invariant-loop-strand : goal.invariant-loop-strand
invariant-loop-strand g l = IsReservedFor l.net l.work × IsRoomOf l.net l.taken
