use Rattle.std.proofs.Common.{◌≤◌, arith}
use Rattle.pra_base.specs.Valid.{most_loops}
use Rattle.vc_live.proofs.SizedLemmas.{of_all, granted}
use Rattle.vc_live.proofs.sized.are_depths_in_range.Goals as goal

pub returns : goal.returns
returns c = granted (of_all (λ b. b.depth ≤ most_loops) c.args.blocks.now c.loop-block.block-index
    c.loop-block.invariant (omega arith) (omega arith))
