use Rattle.std.proofs.Common.{◌≡◌, ◌≤◌, length}
use Rattle.pra_base.specs.declared.ids.Place.{Place}
use Rattle.pra_base.specs.Places.{number}
use Rattle.net_cost.specs.Models.{weights_of}
use Rattle.net_form.specs.Ordered.{first_extra}
use Rattle.net_path.specs.Ways.{at}
use Rattle.net_path.proofs.PaidExtras.{IsSoFar}
use Rattle.net_path.proofs.cells.pay_extras.Given as goal

abbrev pub invariant-loop-next : goal.invariant-loop-next
invariant-loop-next g l = record {
  long : length l.row.costs ≡ 16;
  behind : first_extra l.net l.spot.strand l.spot.layer ≤ l.next;
  cells : (place : Place) → IsSoFar l.net (weights_of l.model) l.spot l.places l.caps l.next place
      (at l.row.costs (number place));
}
