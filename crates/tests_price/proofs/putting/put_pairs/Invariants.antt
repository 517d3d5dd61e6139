use Rattle.net_form.specs.Rooms.{IsRoomOf}
use Rattle.tests_price.proofs.putting.put_pairs.Given as goal

-- there is a mark for all of the network
abbrev pub invariant-loop-row : goal.invariant-loop-row
invariant-loop-row l = IsRoomOf l.net l.taken
