use Rattle.al_edge.specs.Yielding.{IsTable}
use Rattle.al_edge.proofs.yielding.yielding.Given as goal

abbrev pub invariant-loop-k : goal.invariant-loop-k
invariant-loop-k l = IsTable l.net l.k l.table.items
