-- What is left has the first excess of all.
use Rattle.std.proofs.Common.{◌≡◌, ℕ, List, drop, length, map}
use Rattle.pra_base.specs.declared.limit.LimitKind.TheVariants.{Parameters}
use Rattle.ob_syntax.specs.declared.checked.Draft.{Draft}
use Rattle.ob_syntax.specs.WellFormed.{first_above}
use Rattle.ob_measure.proofs.quantities.parameters_within.Given as goal

abbrev pub invariant-loop-draft : goal.invariant-loop-draft
invariant-loop-draft l =
    let counts : List Draft → List ℕ = map (λ d. length d.params) in
    first_above Parameters (counts (drop l.draft-index l.drafts)) ≡ first_above Parameters
    (counts l.drafts)
