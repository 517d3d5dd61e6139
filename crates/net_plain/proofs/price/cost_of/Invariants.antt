use Rattle.std.proofs.Common.{◌≡◌, ◌+◌, ◌≤◌, length, drop}
use Rattle.net_cost.specs.Models.{weights_of}
use Rattle.net_form.specs.Admitted.{strand_at}
use Rattle.net_plain.specs.Rests.{IsCostOf, place_before}
use Rattle.net_plain.proofs.price.cost_of.Given as goal

abbrev pub invariant-loop-at : goal.invariant-loop-at
invariant-loop-at g l = record {
  is_first : l.first ≡ (strand_at l.net l.strand).first;
  within : l.at ≤ length l.path;
  cost : IsCostOf l.net (weights_of l.model) l.prices l.ends l.taken l.strand (l.first + l.at)
      (place_before l.path l.at) (drop l.at l.path) l.left;
}

abbrev pub decreases-loop-at : goal.decreases-loop-at
decreases-loop-at g l = l.at
