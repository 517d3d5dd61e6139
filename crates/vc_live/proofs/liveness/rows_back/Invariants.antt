use Rattle.std.proofs.Common.{length}
use Rattle.vc_live.specs.Sets.{contains}
use Rattle.vc_live.specs.Equations.{at_exit}
use Rattle.vc_live.proofs.RowLemmas.{BackTo}
use Rattle.vc_live.proofs.liveness.rows_back.Given as goal

abbrev pub invariant-loop-left : goal.invariant-loop-left
invariant-loop-left l = BackTo (contains l.constants) l.block.code
    (at_exit (contains l.constants) l.entries l.block.end) (length l.fn.now) l.now l.rows.items
    l.left

abbrev pub decreases-loop-left : goal.decreases-loop-left
decreases-loop-left l = l.left
