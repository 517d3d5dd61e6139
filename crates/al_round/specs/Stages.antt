-- The prices of rounds, each with a family of least paths at them, those that were raised beside
-- them, and the bounds that they give (Koes and Goldstein, A Global Progressive Register Allocator,
-- PLDI 2006, section 3).
use Rattle.std.specs.Prelude.{◌≡◌, ◌⊎◌, ℕ, suc, ◌*◌, ◌≤◌, ◌<◌, ℤ, pos, ◌-ℤ◌, ◌≤ℤ◌, ◌<ℤ◌}
use Rattle.std.specs.Prelude.{List, map, slice_get, Some}
use Rattle.net_cost.specs.declared.weights.Weights.{Weights}
use Rattle.net_form.specs.declared.net.Net.{Net}
use Rattle.net_form.specs.declared.prices.Prices.{Prices}
use Rattle.net_form.specs.declared.routes.Routes.{Routes}
use Rattle.net_form.specs.Rooms.{zero_prices}
use Rattle.net_dual.specs.Priced.{cost_by_weights, price_unit}
use Rattle.net_dual.specs.Step.{IsNext}
use Rattle.net_dual.specs.Value.{IsValue, IsLagrange}
use Rattle.al_round.specs.Ascents.{AreRaisedPrices}

-- The prices of a round, a family of least paths at them, and the Lagrange value there. Beside them
-- the prices that were raised until then, and their value.
pub record Stage : Type 0 where
  pub prices : Prices
  pub family : Routes
  pub value : ℤ
  pub raised : Prices
  pub raised_value : ℤ

-- Rounds 0, 1, 2 and so on: prices are of nothing at first, and each round's are those before it
-- after the round's step by the family before it. Raised prices are of nothing at first, and each
-- round's are raised from those before it.
pub record AreStages (net : Net) (w : Weights) (stages : List Stage) : Type 0 where
  pub starts : (s : Stage) → slice_get stages 0 ≡ Some s → s.prices ≡ zero_prices net
  pub goes_on : (k : ℕ) (s t : Stage) → slice_get stages k ≡ Some s →
      slice_get stages (suc k) ≡ Some t → IsNext net s.family (suc k) s.prices t.prices
  pub values : (k : ℕ) (s : Stage) → slice_get stages k ≡ Some s →
      IsValue net (cost_by_weights net w) s.prices s.family s.value
  pub rise_from : (s : Stage) → slice_get stages 0 ≡ Some s → s.raised ≡ zero_prices net
  pub rise : (k : ℕ) (s t : Stage) → slice_get stages k ≡ Some s →
      slice_get stages (suc k) ≡ Some t → AreRaisedPrices net w s.raised t.raised
  pub raised_values : (k : ℕ) (s : Stage) → slice_get stages k ≡ Some s →
      IsLagrange net w s.raised s.raised_value

-- their prices alone
abbrev pub chain_of : List Stage → List Prices
chain_of stages = map (λ (s : Stage). s.prices) stages

-- and those that were raised
abbrev pub ascent_of : List Stage → List Prices
ascent_of stages = map (λ (s : Stage). s.raised) stages

-- b whole units are the value, rounded up
pub record IsRoundedUp (value : ℤ) (b : ℕ) : Type 0 where
  pub enough : value ≤ℤ pos (price_unit * b)
  pub least : (pos (price_unit * b) -ℤ pos price_unit) <ℤ value

-- these are the prices of one of rounds 0 to k, the first that had so great a value
pub record IsFirstGreatest (stages : List Stage) (k : ℕ) (prices : Prices) (value : ℤ)
    : Type 0 where
  pub at : ℕ
  pub until : at ≤ k
  pub stage : Stage
  pub there : slice_get stages at ≡ Some stage
  pub same_prices : prices ≡ stage.prices
  pub same_value : value ≡ stage.value
  pub first : (j : ℕ) (s : Stage) → j < at → slice_get stages j ≡ Some s → s.value <ℤ value

-- these are the prices that were raised until round k
pub record IsLastRaised (stages : List Stage) (k : ℕ) (prices : Prices) (value : ℤ) : Type 0 where
  pub stage : Stage
  pub there : slice_get stages k ≡ Some stage
  pub same_prices : prices ≡ stage.raised
  pub same_value : value ≡ stage.raised_value

-- these prices gave the greatest value of those of rounds 0 to k and of those raised until round k
pub record IsGreatest (stages : List Stage) (k : ℕ) (prices : Prices) (value : ℤ) : Type 0 where
  pub one : IsFirstGreatest stages k prices value ⊎ IsLastRaised stages k prices value
  pub most : (j : ℕ) (s : Stage) → j ≤ k → slice_get stages j ≡ Some s → s.value ≤ℤ value
  pub most_raised : (s : Stage) → slice_get stages k ≡ Some s → s.raised_value ≤ℤ value

-- and it is b whole units, rounded up
pub record IsBest (stages : List Stage) (k : ℕ) (prices : Prices) (b : ℕ) : Type 0 where
  pub value : ℤ
  pub greatest : IsGreatest stages k prices value
  pub rounded : IsRoundedUp value b
