use Rattle.std.proofs.Common.{◌^◌}
use Rattle.pra_base.specs.Places.{place_at}
use Rattle.net_cost.specs.Models.{weights_of}
use Rattle.net_dual.specs.Leasts.{IsLeastOf, IsCostWithin}
use Rattle.cert_check.specs.Pass.{via}
use Rattle.cert_check.proofs.pass.come_to.Given as goal

abbrev pub invariant-loop-at : goal.invariant-loop-at
invariant-loop-at g l = record {
  least : IsLeastOf
      (λ k. via l.net (weights_of l.model) l.spot.strand l.spot.layer l.row (place_at k) l.to)
      l.at l.least;
  within : IsCostWithin (2 ^ 61) l.least;
}
