use Rattle.vc_live.specs.Sized.{Each, NamesBelow}
use Rattle.vc_live.proofs.SizedLemmas.{Holds}
use Rattle.vc_live.proofs.sized.are_variables_in_range.Given as goal

abbrev pub invariant-loop-block : goal.invariant-loop-block
invariant-loop-block l = Holds (λ b. Each b.code (NamesBelow l.count)) l.blocks l.block-index
