use Rattle.std.proofs.Common.{◌≡◌, ◌≤◌, ◌+◌, ◌*◌, length, sum_by}
use Rattle.net_cost.specs.Models.{weights_of}
use Rattle.net_cost.specs.Weights.{most_weight}
use Rattle.net_form.specs.Cost.{met_cost}
use Rattle.net_gate.proofs.weigh.extras_cost.Given as goal

abbrev pub invariant-loop-rest : goal.invariant-loop-rest
invariant-loop-rest g l = record {
  whole : l.total + sum_by (met_cost l.net (weights_of l.model) l.routes) l.rest
      ≡ sum_by (met_cost l.net (weights_of l.model) l.routes) l.net.extras;
  small : l.total + most_weight * length l.rest ≤ most_weight * length l.net.extras;
}

abbrev pub decreases-loop-rest : goal.decreases-loop-rest
decreases-loop-rest g l = length l.rest
