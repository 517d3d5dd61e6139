use Rattle.std.proofs.Common.{◌≤◌}
use Rattle.pra_base.specs.Valid.{most_loops}
use Rattle.vc_live.proofs.SizedLemmas.{Holds}
use Rattle.vc_live.proofs.sized.are_depths_in_range.Given as goal

abbrev pub invariant-loop-block : goal.invariant-loop-block
invariant-loop-block l = Holds (λ b. b.depth ≤ most_loops) l.blocks l.block-index
