use Rattle.std.proofs.Common.{List}
use Rattle.ia_carries.proofs.Assembled.{room_for_one}
use Rattle.ia_asm.specs.Assembly.{CanAssemble}
use Rattle.ia_carries.specs.Faithful.{AreSmall}
use Rattle.ia_emit.specs.Counts.{AreFew}
use Rattle.ia_emit.proofs.FewBytes.{few_bytes}
use Rattle.pl_place.specs.declared.placed.LProc.{LProc}
use Rattle.pl_place.specs.Valid.{ArePlaced}
use Rattle.ia_carries.proofs.laws.code_has_room.Goals as goal

at_once : (procs : List LProc) → ArePlaced procs → AreSmall procs → AreFew procs → CanAssemble procs
at_once procs placed small few = record {
  placed = placed.each;
  small = small;
  room = few_bytes procs few placed.each;
}

pub returns-clause-at_once : goal.returns-clause-at_once
returns-clause-at_once c = at_once

pub returns-clause-one_more : goal.returns-clause-one_more
returns-clause-one_more c = room_for_one
