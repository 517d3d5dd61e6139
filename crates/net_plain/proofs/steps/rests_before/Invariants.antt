use Rattle.std.proofs.Common.{◌≡◌, ◌<◌, ℕ, Some, length}
use Rattle.pra_base.specs.Places.{place_count, place_at}
use Rattle.net_cost.specs.Models.{weights_of}
use Rattle.net_dual.specs.Leasts.{cost_at}
use Rattle.net_plain.specs.Rests.{IsRest}
use Rattle.net_plain.proofs.steps.rests_before.Given as goal

abbrev pub invariant-loop-at : goal.invariant-loop-at
invariant-loop-at g l = record {
  long : length l.before ≡ place_count;
  each : (k : ℕ) → k < l.at → IsRest l.net (weights_of l.model) l.prices l.fn.ends l.taken
      l.spot.strand l.spot.layer (Some (place_at k)) (cost_at l.before k);
}
