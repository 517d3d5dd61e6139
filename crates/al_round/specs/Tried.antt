-- What a round tried by its prices: a greedy plan, its priced order, and what laying by them came
-- to.
use Rattle.std.specs.Prelude.{ℕ, ◌≤◌, List}
use Rattle.net_cost.specs.declared.weights.Weights.{Weights}
use Rattle.net_form.specs.declared.net.Net.{Net}
use Rattle.net_form.specs.declared.prices.Prices.{Prices}
use Rattle.net_form.specs.declared.routes.Plan.{Plan}
use Rattle.net_form.specs.declared.routes.Routes.{Routes}
use Rattle.net_form.specs.Flow.{flow, AreRoutes}
use Rattle.net_form.specs.Admitted.{IsAdmitted}
use Rattle.net_form.specs.Cost.{cost_in}
use Rattle.al_laws.specs.Greedy.{IsGreedy}
use Rattle.al_laws.specs.Laid.{AreLaid, IsBlocked}
use Rattle.al_laws.specs.Order.{IsPricedOrder}
use Rattle.al_round.specs.declared.tried.Outcome.{Outcome}
use Rattle.al_round.specs.declared.tried.Outcome.TheVariants.{Laid, Blocked}
use Rattle.al_round.specs.declared.tried.Tried.{Tried}

-- routes laid by plan and order, which cost so much at least
pub record AreTriedRoutes (net : Net) (w : Weights) (prices : Prices) (plan : Plan)
    (order : List ℕ) (least : ℕ) (routes : Routes) : Type 0 where
  pub laid : AreLaid net w prices plan order routes
  pub are_routes : AreRoutes net routes
  pub admitted : IsAdmitted net (flow net routes)
  pub cost : least ≤ cost_in net w routes

-- they are, or the strand is blocked by what those before it took
abbrev pub IsOutcome : Net → Weights → Prices → Plan → List ℕ → ℕ → Outcome → Type 0
IsOutcome net w prices plan order least (Laid routes) =
    AreTriedRoutes net w prices plan order least routes
IsOutcome net w prices plan order least (Blocked s taken) =
    IsBlocked net w prices plan order s taken

-- By the prices: a greedy plan, its priced order, and what came of them. Routes that were laid cost
-- so much at least.
pub record IsTried (net : Net) (w : Weights) (prices : Prices) (least : ℕ) (tried : Tried)
    : Type 0 where
  pub greedy : IsGreedy net w prices tried.plan
  pub order : IsPricedOrder net w prices tried.plan tried.order
  pub outcome : IsOutcome net w prices tried.plan tried.order least tried.outcome
