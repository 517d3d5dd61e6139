use Rattle.std.proofs.Common.{◌≡◌, ◌≤◌, ◌+◌, ◌*◌, drop, sum_by}
use Rattle.net_cost.specs.Models.{weights_of}
use Rattle.net_cost.specs.Weights.{most_weight}
use Rattle.net_form.specs.Cost.{way_cost}
use Rattle.net_form.specs.Flow.{flow_from, flow}
use Rattle.net_form.specs.Formed.{most_layers}
use Rattle.net_form.specs.Tables.{all_tables}
use Rattle.net_gate.proofs.weigh.paths_cost.Given as goal

abbrev pub invariant-loop-at : goal.invariant-loop-at
invariant-loop-at g l = record {
  whole : l.total + sum_by (way_cost all_tables l.net (weights_of l.model))
      (flow_from l.at (drop l.at l.net.strands) (drop l.at l.routes.places))
      ≡ sum_by (way_cost all_tables l.net (weights_of l.model)) (flow l.net l.routes);
  small : l.total ≤ 2 * most_weight * most_layers * l.at;
}
