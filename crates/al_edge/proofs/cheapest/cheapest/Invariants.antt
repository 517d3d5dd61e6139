use Rattle.al_edge.specs.Cheapest.{IsBestBelow}
use Rattle.al_edge.proofs.cheapest.cheapest.Given as goal

abbrev pub invariant-loop-number : goal.invariant-loop-number
invariant-loop-number l = IsBestBelow l.weights l.number l.best
