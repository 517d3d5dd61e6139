use Rattle.std.proofs.Common.{length}
use Rattle.vc_live.specs.Sets.{contains}
use Rattle.vc_live.specs.Spreading.{AreStops}
use Rattle.vc_live.proofs.solve.stops.Given as goal

abbrev pub invariant-loop-block : goal.invariant-loop-block
invariant-loop-block l = AreStops (length l.constants) l.code (contains l.constants) l.sets.items
    l.block-index
