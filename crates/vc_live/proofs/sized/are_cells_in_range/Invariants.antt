use Rattle.vc_live.specs.Sized.{Each, CellsBelow}
use Rattle.vc_live.proofs.SizedLemmas.{Holds}
use Rattle.vc_live.proofs.sized.are_cells_in_range.Given as goal

abbrev pub invariant-loop-block : goal.invariant-loop-block
invariant-loop-block l = Holds (λ b. Each b.code (CellsBelow l.args)) l.blocks l.block-index
