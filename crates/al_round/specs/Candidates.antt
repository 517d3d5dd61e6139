-- What outcomes offer in place of the best routes.
use Rattle.std.specs.Prelude.{ℕ, ◌≤◌, ⊤}
use Rattle.net_cost.specs.declared.weights.Weights.{Weights}
use Rattle.net_form.specs.declared.net.Net.{Net}
use Rattle.net_form.specs.Flow.{flow, AreRoutes}
use Rattle.net_form.specs.Admitted.{IsAdmitted}
use Rattle.net_form.specs.Cost.{cost_in}
use Rattle.al_round.specs.declared.tried.Outcome.{Outcome}
use Rattle.al_round.specs.declared.tried.Outcome.TheVariants.{Laid, Blocked}

-- what was laid is admitted routes
abbrev pub IsCandidate : Net → Outcome → Type 0
IsCandidate net (Laid routes) = AreRoutes net routes × IsAdmitted net (flow net routes)
IsCandidate net (Blocked s taken) = ⊤

-- and costs so much at least
abbrev pub CostsAtLeast : Net → Weights → ℕ → Outcome → Type 0
CostsAtLeast net w least (Laid routes) = least ≤ cost_in net w routes
CostsAtLeast net w least (Blocked s taken) = ⊤
