use Rattle.std.proofs.Common.{length}
use Rattle.vc_live.specs.Sets.{contains}
use Rattle.vc_live.proofs.RowLemmas.{ConfinedTo}
use Rattle.vc_live.proofs.liveness.confine.Given as goal

abbrev pub invariant-loop-k : goal.invariant-loop-k
invariant-loop-k l = ConfinedTo (contains l.constants) l.block.code (length l.fn.seen)
    l.initial.rows.items l.rows.items l.seen l.k
