-- What is left has the first excess of all.
use Rattle.std.proofs.Common.{◌≡◌, drop}
use Rattle.ob_syntax.specs.WellFormed.{first_above}
use Rattle.ob_measure.proofs.quantities.all_within.Given as goal

abbrev pub invariant-loop-count : goal.invariant-loop-count
invariant-loop-count l = first_above l.kind (drop l.count-index l.counts) ≡
    first_above l.kind l.counts
