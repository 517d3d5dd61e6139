use Rattle.std.proofs.Common.{◌*◌}
use Rattle.net_cost.specs.Models.{weights_of}
use Rattle.net_dual.specs.Priced.{edge_price}
use Rattle.net_dual.specs.Small.{IsWithin, most_sum}
use Rattle.cert_check.specs.Pass.{AreLeastCosts}
use Rattle.cert_check.proofs.value.least_costs.Given as goal

abbrev pub invariant-loop-strand : goal.invariant-loop-strand
invariant-loop-strand g l = record {
  sum : AreLeastCosts l.net (edge_price l.net (weights_of l.model) l.tolls.prices) l.strand l.total;
  within : IsWithin (most_sum * l.strand) l.total;
}
