use Rattle.std.proofs.Common.{◌≡◌, ◌*◌, ◌^◌, true, take}
use Rattle.pra_base.specs.declared.ids.Place.{Place}
use Rattle.pra_base.specs.Places.{number}
use Rattle.net_cost.specs.Models.{weights_of}
use Rattle.net_path.specs.Desk.{IsReservedFor}
use Rattle.al_edge.specs.GroupEnds.{ends_of}
use Rattle.al_edge.specs.Totals.{AreWide, number_at, opened}
use Rattle.al_edge.specs.Weighed.{IsSumAt}
use Rattle.al_edge.proofs.weights.totals.Given as goal

abbrev pub invariant-loop-end : goal.invariant-loop-end
invariant-loop-end g l = record {
  reserved : IsReservedFor l.net l.work;
  family : l.work.family ≡ l.fn.work.family;
  sums : (p : Place) → opened l.opens (number p) ≡ true →
      IsSumAt l.net (weights_of l.model) l.prices l.group p
      (take l.end-index (ends_of l.net l.group)) (number_at l.totals (number p));
  wide : AreWide (2 ^ 63 * l.end-index) l.totals;
}
