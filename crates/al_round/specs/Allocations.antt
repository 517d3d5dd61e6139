-- Where rounds stand, and what they leave.
use Rattle.std.specs.Prelude.{◌≡◌, ℕ, ◌-◌, ◌≤◌, true, List, length, slice_get}
use Rattle.std.specs.Prelude.{Option, Some, None, is_some, IfSome}
use Rattle.net_cost.specs.declared.weights.Weights.{Weights}
use Rattle.net_form.specs.declared.net.Net.{Net}
use Rattle.net_form.specs.declared.prices.Line.{Line}
use Rattle.net_form.specs.declared.prices.Prices.{Prices}
use Rattle.net_form.specs.declared.routes.Routes.{Routes}
use Rattle.al_round.specs.Lines.{AreLines, IsCost}
use Rattle.al_round.specs.Stages.{Stage, AreStages, IsBest}
use Rattle.al_round.specs.Tried.{IsTried}
use Rattle.al_round.specs.declared.tried.Tried.{Tried}

-- Of these rounds this is the last line, these are the best routes, of its cost, and the prices of
-- its bound.
pub record IsAllocated (net : Net) (w : Weights) (stages : List Stage) (lines : List Line)
    (routes : Routes) (prices : Prices) : Type 0 where
  pub are_stages : AreStages net w stages
  pub are_lines : AreLines net w stages lines
  pub last : Line
  pub is_last : slice_get lines (length lines - 1) ≡ Some last
  pub cost : IsCost net w (length lines - 1) last.cost routes
  pub bound : IsBest stages (length lines - 1) prices last.bound

-- What rounds leave of a network.
pub record IsAllocation (net : Net) (w : Weights) (lines : List Line) (routes : Routes)
    (prices : Prices) : Type 0 where
  pub stages : List Stage
  pub allocated : IsAllocated net w stages lines routes prices

-- The last round's prices are kept, with their family, and what it tried, where there was one.
pub record IsLatest (net : Net) (w : Weights) (stages : List Stage) (least : ℕ) (prices : Prices)
    (family : Routes) (tried : Option Tried) : Type 0 where
  pub stage : Stage
  pub is_last : slice_get stages (length stages - 1) ≡ Some stage
  pub same_prices : prices ≡ stage.prices
  pub same_family : family ≡ stage.family
  pub was_tried : IfSome tried (IsTried net w stage.prices least)
  pub none : length stages ≡ 1 → tried ≡ None
  pub some : 2 ≤ length stages → is_some tried ≡ true
