-- What the line of a round says: the cost of the best routes until then, and a bound on the cost of
-- every flow.
use Rattle.std.specs.Prelude.{◌≡◌, ℕ, suc, ◌≤◌, List, length, slice_get, Some}
use Rattle.net_cost.specs.declared.weights.Weights.{Weights}
use Rattle.net_form.specs.declared.net.Net.{Net}
use Rattle.net_form.specs.declared.prices.Line.{Line}
use Rattle.net_form.specs.declared.prices.Prices.{Prices}
use Rattle.net_form.specs.declared.routes.Routes.{Routes}
use Rattle.net_form.specs.Flow.{Edge, flow, AreRoutes}
use Rattle.net_form.specs.Admitted.{IsAdmitted}
use Rattle.net_form.specs.Cost.{cost_of, cost_in}
use Rattle.al_laws.specs.Settled.{AreSettled}
use Rattle.al_round.specs.Stages.{Stage, IsBest}
use Rattle.al_round.specs.Tried.{IsTried}
use Rattle.al_round.specs.declared.tried.Tried.{Tried}

-- the cost is that of admitted routes, which are settled from the first round on
pub record IsCost (net : Net) (w : Weights) (k cost : ℕ) (routes : Routes) : Type 0 where
  pub are_routes : AreRoutes net routes
  pub admitted : IsAdmitted net (flow net routes)
  pub is : cost ≡ cost_in net w routes
  pub settled : 1 ≤ k → AreSettled net w routes

-- no admitted flow, of whatever edges, costs less
abbrev pub BoundsAll : Net → Weights → ℕ → Type 0
BoundsAll net w bound =
    (f : List Edge) → IsAdmitted net f → bound ≤ cost_of net w f

-- by the prices of round k a plan, an order and an outcome were tried
pub record WasTried (net : Net) (w : Weights) (stages : List Stage) (k least : ℕ) : Type 0 where
  pub stage : Stage
  pub there : slice_get stages k ≡ Some stage
  pub tried : Tried
  pub is : IsTried net w stage.prices least tried

-- The line of round k.
pub record IsLine (net : Net) (w : Weights) (stages : List Stage) (k : ℕ) (line : Line)
    : Type 0 where
  pub number : line.round ≡ k
  pub routes : Routes
  pub cost : IsCost net w k line.cost routes
  pub prices : Prices
  pub bound : IsBest stages k prices line.bound
  pub holds : BoundsAll net w line.bound
  pub within : line.bound ≤ line.cost
  pub tried : 1 ≤ k → WasTried net w stages k line.cost

-- The lines of rounds 0, 1, 2 and so on, one at least: costs never rise and bounds never fall.
pub record AreLines (net : Net) (w : Weights) (stages : List Stage) (lines : List Line)
    : Type 0 where
  pub many : length lines ≡ length stages
  pub some : 1 ≤ length lines
  pub each : (k : ℕ) (l : Line) → slice_get lines k ≡ Some l → IsLine net w stages k l
  pub costs : (k : ℕ) (l m : Line) → slice_get lines k ≡ Some l →
      slice_get lines (suc k) ≡ Some m → m.cost ≤ l.cost
  pub bounds : (k : ℕ) (l m : Line) → slice_get lines k ≡ Some l →
      slice_get lines (suc k) ≡ Some m → l.bound ≤ m.bound
