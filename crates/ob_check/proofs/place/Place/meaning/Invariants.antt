-- What the scopes that are left make of what was found is what all make of it.
use Rattle.std.proofs.Common.{◌≡◌, drop}
use Rattle.ob_syntax.specs.Names.{innermost, standard}
use Rattle.ob_check.proofs.place.Place.meaning.Given as goal

abbrev pub invariant-loop-scope : goal.invariant-loop-scope
invariant-loop-scope l =
    innermost l.name l.found (drop l.scope-index l.scope-items) ≡
    innermost l.name (standard l.name) l.scope-items
