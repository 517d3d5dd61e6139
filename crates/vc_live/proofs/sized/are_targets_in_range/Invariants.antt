use Rattle.std.proofs.Common.{length}
use Rattle.vc_live.specs.Sized.{TargetsBelow}
use Rattle.vc_live.proofs.SizedLemmas.{Holds}
use Rattle.vc_live.proofs.sized.are_targets_in_range.Given as goal

abbrev pub invariant-loop-block : goal.invariant-loop-block
invariant-loop-block l = Holds (λ b. TargetsBelow (length l.blocks) b.end) l.blocks l.block-index
