use Rattle.std.proofs.Common.{IsFalse}
use Rattle.pra_base.specs.declared.ids.Place.{Place}
use Rattle.pra_base.specs.Places.{number, allows}
use Rattle.al_iter.specs.SettleSums.{IsShut}
use Rattle.al_iter.proofs.settle_open.open_places.Given as goal

abbrev pub invariant-loop-at : goal.invariant-loop-at
invariant-loop-at l = (p : Place) → IsFalse (allows l.places (number p))
    → IsShut l.net l.taken l.strands p
