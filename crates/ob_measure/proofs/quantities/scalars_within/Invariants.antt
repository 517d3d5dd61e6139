-- What is left has the first excess of all.
use Rattle.std.proofs.Common.{◌≡◌, drop, map}
use Rattle.pra_base.specs.declared.limit.LimitKind.TheVariants.{Scalars}
use Rattle.ob_syntax.specs.WellFormed.{first_above, scalars}
use Rattle.ob_measure.proofs.quantities.scalars_within.Given as goal

abbrev pub invariant-loop-draft : goal.invariant-loop-draft
invariant-loop-draft l = first_above Scalars (map scalars (drop l.draft-index l.drafts)) ≡
    first_above Scalars (map scalars l.drafts)
