use Rattle.std.proofs.Common.{◌≡◌, ◌-◌, length}
use Rattle.pra_base.specs.Places.{place_count}
use Rattle.net_cost.specs.Models.{weights_of}
use Rattle.net_form.specs.Admitted.{strand_at}
use Rattle.net_dual.specs.Priced.{edge_price}
use Rattle.cert_check.specs.Tolls.{IsSpot}
use Rattle.cert_check.specs.Pass.{IsPassRow}
use Rattle.cert_check.proofs.pass.least_cost.Given as goal

abbrev pub invariant-loop-spot : goal.invariant-loop-spot
invariant-loop-spot g l = record {
  last : l.last ≡ (strand_at l.net l.strand).last;
  strand : l.spot.strand ≡ l.strand;
  spot : IsSpot l.net l.spot;
  long : length l.row ≡ place_count;
  is_row : IsPassRow l.net (edge_price l.net (weights_of l.model) l.tolls.prices) l.spot.strand
      l.spot.layer l.row;
}

abbrev pub decreases-loop-spot : goal.decreases-loop-spot
decreases-loop-spot g l = l.last - l.spot.layer
