use Rattle.std.proofs.Common.{◌≡◌, ◌≤◌, ◌*◌, ◌^◌, take, sum_by}
use Rattle.std.specs.Prelude.{if◌then◌else◌}
use Rattle.net_cost.specs.Models.{weights_of}
use Rattle.net_form.specs.Cost.{is_extra_at, extra_cost}
use Rattle.net_plain.proofs.toll.extras_weight.Given as goal

abbrev pub invariant-loop-at : goal.invariant-loop-at
invariant-loop-at g l = record {
  total : l.total ≡ sum_by (λ x. if is_extra_at l.spot.strand l.spot.layer l.place x
      then extra_cost l.net (weights_of l.model) x else 0) (take l.at l.net.extras);
  small : l.total ≤ 2 ^ 32 * l.at;
}
