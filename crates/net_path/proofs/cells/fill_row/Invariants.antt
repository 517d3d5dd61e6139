use Rattle.net_path.proofs.FilledRows.{AreFilled}
use Rattle.net_path.proofs.cells.fill_row.Given as goal

abbrev pub invariant-loop-register : goal.invariant-loop-register
invariant-loop-register l = AreFilled l.places l.caps l.register l.row.costs
