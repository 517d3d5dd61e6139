use Rattle.std.proofs.lemmas.List.Filters.{FiltersInPlace}
use Rattle.vc_checks.specs.Facts.{is_other}
use Rattle.vc_checks.proofs.known.forget.Given as goal

abbrev pub invariant-loop-i : goal.invariant-loop-i
invariant-loop-i l = FiltersInPlace (is_other l.v.0) l.initial.known.items l.known.items l.k l.i
