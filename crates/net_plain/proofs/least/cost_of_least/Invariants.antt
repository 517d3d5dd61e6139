use Rattle.std.proofs.Common.{◌≡◌, ◌-◌, ◌≤◌, suc}
use Rattle.net_cost.specs.Models.{weights_of}
use Rattle.net_form.specs.Admitted.{strand_at}
use Rattle.net_plain.specs.Rests.{AreRests}
use Rattle.net_plain.proofs.least.cost_of_least.Given as goal

abbrev pub invariant-loop-layer : goal.invariant-loop-layer
invariant-loop-layer g l = record {
  is_first : l.first ≡ (strand_at l.net l.strand).first;
  after : l.first ≤ l.layer;
  before : l.layer ≤ (strand_at l.net l.strand).last;
  rests : AreRests l.net (weights_of l.model) l.prices l.ends l.taken l.strand (suc l.layer)
      l.rests;
}

abbrev pub decreases-loop-layer : goal.decreases-loop-layer
decreases-loop-layer g l = l.layer - l.first
