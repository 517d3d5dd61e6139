use Rattle.std.proofs.Common.{◌≡◌, take}
use Rattle.std.specs.List.{list_all}
use Rattle.pra_base.specs.declared.ids.Place.{Place}
use Rattle.pra_base.specs.Places.{number, allows}
use Rattle.al_edge.specs.GroupEnds.{ends_of}
use Rattle.al_edge.specs.OpenPlaces.{may_be}
use Rattle.al_edge.proofs.weights.places_for_all.Given as goal

abbrev pub invariant-loop-end : goal.invariant-loop-end
invariant-loop-end l =
    (p : Place) → allows l.places (number p)
    ≡ list_all (may_be l.net l.used.regs p) (take l.end-index (ends_of l.net l.group))
