use Rattle.std.proofs.Common.{◌≡◌, ◌≤◌, ◌+◌, ◌*◌, length, sum_by}
use Rattle.net_cost.specs.Models.{weights_of}
use Rattle.net_cost.specs.Weights.{most_weight}
use Rattle.net_form.specs.Admitted.{strand_at}
use Rattle.net_form.specs.Flow.{edges}
use Rattle.net_form.specs.Ordered.{first_extra}
use Rattle.net_dual.specs.Paths.{path_edges}
use Rattle.net_dual.specs.Priced.{cost_by_weights}
use Rattle.al_iter.proofs.settle_price.path_cost.Given as goal

abbrev pub invariant-loop-rest : goal.invariant-loop-rest
invariant-loop-rest g l = record {
  whole : l.total + sum_by (cost_by_weights l.net (weights_of l.model))
      (edges l.strand l.layer l.from l.rest)
      ≡ sum_by (cost_by_weights l.net (weights_of l.model)) (path_edges l.net l.strand l.path);
  small : l.total + 3 * most_weight * length l.rest ≤ 3 * most_weight * length l.path;
  layer : l.layer + length l.rest ≡ (strand_at l.net l.strand).first + length l.path;
  extra : l.extra ≡ first_extra l.net l.strand l.layer;
}

abbrev pub decreases-loop-rest : goal.decreases-loop-rest
decreases-loop-rest g l = length l.rest
