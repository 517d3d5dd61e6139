use Rattle.std.proofs.Common.{◌≡◌, ◌≤◌, ◌+◌, ◌*◌, length, sum_by, None}
use Rattle.net_cost.specs.Models.{weights_of}
use Rattle.net_cost.specs.Weights.{most_weight}
use Rattle.net_form.specs.Admitted.{strand_at}
use Rattle.net_form.specs.Cost.{way_cost}
use Rattle.net_form.specs.Flow.{edges}
use Rattle.net_form.specs.Tables.{all_tables}
use Rattle.net_gate.proofs.weigh.path_cost.Given as goal

abbrev pub invariant-loop-rest : goal.invariant-loop-rest
invariant-loop-rest g l = record {
  whole : l.total + sum_by (way_cost all_tables l.net (weights_of l.model))
      (edges l.strand l.layer l.from l.rest)
      ≡ sum_by (way_cost all_tables l.net (weights_of l.model))
      (edges l.strand (strand_at l.net l.strand).first None l.path);
  small : l.total + 2 * most_weight * length l.rest ≤ 2 * most_weight * length l.path;
  layer : l.layer + length l.rest ≡ (strand_at l.net l.strand).first + length l.path;
}

abbrev pub decreases-loop-rest : goal.decreases-loop-rest
decreases-loop-rest g l = length l.rest
