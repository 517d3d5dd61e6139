use Rattle.std.proofs.Common.{◌≡◌, ◌^◌, ◌<◌, ℕ, length}
use Rattle.pra_base.specs.Places.{place_count, place_at}
use Rattle.net_cost.specs.Models.{weights_of}
use Rattle.net_dual.specs.Leasts.{cost_at}
use Rattle.net_plain.specs.Rows.{AreCostsWithin, there}
use Rattle.net_plain.proofs.steps.row_of.Given as goal

abbrev pub invariant-loop-at : goal.invariant-loop-at
invariant-loop-at g l = record {
  long : length l.row ≡ place_count;
  each : (k : ℕ) → k < l.at → cost_at l.row k ≡ there l.net (weights_of l.model) l.prices l.ends
      l.taken l.spot.strand l.spot.layer (place_at k) (cost_at l.rests k);
  within : AreCostsWithin (2 ^ 108) l.row;
}
