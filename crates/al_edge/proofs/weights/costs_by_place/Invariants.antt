use Rattle.std.proofs.Common.{◌≡◌, length}
use Rattle.net_cost.specs.Models.{weights_of}
use Rattle.net_path.specs.Desk.{IsReservedFor}
use Rattle.al_edge.specs.Totals.{AreCostsBelow}
use Rattle.al_edge.proofs.weights.costs_by_place.Given as goal

abbrev pub invariant-loop-number : goal.invariant-loop-number
invariant-loop-number g l = record {
  reserved : IsReservedFor l.net l.work;
  family : l.work.family ≡ l.fn.work.family;
  long : length l.costs ≡ 14;
  costs : AreCostsBelow l.net (weights_of l.model) l.prices l.group l.strand l.opens l.number
      l.costs;
}
