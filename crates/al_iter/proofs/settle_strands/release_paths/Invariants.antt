use Rattle.std.proofs.Common.{take}
use Rattle.net_form.specs.InUse.{StandsFor}
use Rattle.net_form.specs.Rooms.{IsRoomOf}
use Rattle.al_laws.specs.Parts.{rest}
use Rattle.al_iter.specs.SettleState.{among}
use Rattle.al_iter.proofs.settle_strands.release_paths.Given as goal

abbrev pub invariant-loop-at : goal.invariant-loop-at
invariant-loop-at l = record {
  room : IsRoomOf l.net l.taken;
  marked : StandsFor l.net l.taken (rest l.net (among (take l.at l.strands)) l.routes);
}
