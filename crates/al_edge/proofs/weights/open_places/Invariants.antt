use Rattle.std.proofs.Common.{◌≡◌, length}
use Rattle.al_edge.specs.Totals.{AreOpenBelow}
use Rattle.al_edge.proofs.weights.open_places.Given as goal

abbrev pub invariant-loop-number : goal.invariant-loop-number
invariant-loop-number l = record {
  long : length l.opens ≡ 14;
  opens : AreOpenBelow l.places l.number l.opens;
}
