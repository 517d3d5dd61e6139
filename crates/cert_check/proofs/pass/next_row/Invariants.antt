use Rattle.std.proofs.Common.{◌≡◌, ◌<◌, ℕ, length}
use Rattle.pra_base.specs.Places.{place_count, place_at}
use Rattle.net_cost.specs.Models.{weights_of}
use Rattle.net_dual.specs.Priced.{edge_price}
use Rattle.net_dual.specs.Leasts.{cost_at}
use Rattle.cert_check.specs.Pass.{IsReached}
use Rattle.cert_check.proofs.pass.next_row.Given as goal

abbrev pub invariant-loop-at : goal.invariant-loop-at
invariant-loop-at g l = record {
  long : length l.next ≡ place_count;
  each : (k : ℕ) → k < l.at →
      IsReached l.net (edge_price l.net (weights_of l.model) l.tolls.prices) l.spot.strand
      l.spot.layer (place_at k) (cost_at l.next k);
}
