use Rattle.vc_live.specs.Sized.{CellsBelow}
use Rattle.vc_live.proofs.SizedLemmas.{Holds}
use Rattle.vc_live.proofs.sized.all_cells_below.Given as goal

abbrev pub invariant-loop-instr : goal.invariant-loop-instr
invariant-loop-instr l = Holds (CellsBelow l.count) l.instrs l.instr-index
