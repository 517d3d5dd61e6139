use Rattle.std.proofs.Common.{◌≡◌, [], replicate}
use Rattle.al_edge.proofs.yielding.nobody.Given as goal

abbrev pub invariant-loop-row : goal.invariant-loop-row
invariant-loop-row l = l.table.items ≡ replicate l._row []
