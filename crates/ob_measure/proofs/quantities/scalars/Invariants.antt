-- What is counted and the scalars of what is left are those of all.
use Rattle.std.proofs.Common.{◌≡◌, ◌+◌, [], drop}
use Rattle.ob_syntax.specs.WellFormed.{scalars}
use Rattle.ob_measure.proofs.quantities.scalars.Given as goal

abbrev pub invariant-loop-type_id : goal.invariant-loop-type_id
invariant-loop-type_id l =
    l.total + scalars (record l.draft { params = []; vars = drop l.type_id-index l.type_id-items })
    ≡ scalars l.draft
