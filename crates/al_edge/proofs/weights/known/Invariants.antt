use Rattle.std.proofs.Common.{◌≡◌, length}
use Rattle.al_edge.specs.Totals.{AreKnown}
use Rattle.al_edge.proofs.weights.known.Given as goal

abbrev pub invariant-loop-number : goal.invariant-loop-number
invariant-loop-number l = record {
  long : length l.costs ≡ 14;
  known : AreKnown l.found l.number l.costs;
}
