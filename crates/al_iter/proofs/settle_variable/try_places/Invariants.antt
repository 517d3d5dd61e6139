use Rattle.std.proofs.Common.{◌≡◌, ◌<◌, ◌≤ℤ◌, ℕ, false}
use Rattle.pra_base.specs.declared.ids.Place.{Place}
use Rattle.pra_base.specs.Places.{number}
use Rattle.net_cost.specs.Models.{weights_of}
use Rattle.net_dual.specs.Paths.{path_in}
use Rattle.net_path.specs.Desk.{IsReservedFor}
use Rattle.al_iter.specs.SettleState.{among, IsAside}
use Rattle.al_iter.specs.SettleSums.{PayAtLeast, sum_of}
use Rattle.al_iter.proofs.settle_variable.try_places.Given as goal

abbrev pub invariant-loop-number : goal.invariant-loop-number
invariant-loop-number g l = record {
  aside : IsAside l.net l.strands l.spare l.routes;
  taken : l.spare.taken ≡ l.initial.spare.taken;
  price : l.least ≡ sum_of l.net (weights_of l.model) l.routes l.strands;
  least : (p : Place) → number p < l.number
      → PayAtLeast l.net (weights_of l.model) l.initial.spare.taken l.strands p l.least;
  less : l.least ≤ℤ l.price;
  same : l.least ≡ l.price → l.routes ≡ l.initial.routes;
  others : (s : ℕ) → among l.strands s ≡ false
      → path_in l.routes s ≡ path_in l.initial.routes s;
  family : l.work.family ≡ l.initial.work.family;
  reserved : IsReservedFor l.net l.work;
}
