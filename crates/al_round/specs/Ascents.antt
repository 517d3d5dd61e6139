-- Prices that are raised beside the chain of price steps: how they are found is free, and their
-- Lagrange value never falls.
use Rattle.std.specs.Prelude.{◌≡◌, ℕ, suc, ℤ, ◌≤ℤ◌, List, slice_get, Some}
use Rattle.net_cost.specs.declared.weights.Weights.{Weights}
use Rattle.net_form.specs.declared.net.Net.{Net}
use Rattle.net_form.specs.declared.prices.Prices.{Prices}
use Rattle.net_form.specs.Rooms.{zero_prices}
use Rattle.net_dual.specs.Priced.{AreInRange}
use Rattle.net_dual.specs.Value.{IsLagrange}

-- prices in range whose Lagrange value is no lower
pub record AreRaisedPrices (net : Net) (w : Weights) (old new : Prices) : Type 0 where
  pub in_range : AreInRange net new
  pub before : ℤ
  pub after : ℤ
  pub was : IsLagrange net w old before
  pub is : IsLagrange net w new after
  pub no_lower : before ≤ℤ after

-- prices of round 0, 1, 2 and so on, the first of nothing, and each raised from those before it
pub record IsAscent (net : Net) (w : Weights) (ascent : List Prices) : Type 0 where
  pub starts : slice_get ascent 0 ≡ Some (zero_prices net)
  pub goes_on : (k : ℕ) (old new : Prices) → slice_get ascent k ≡ Some old →
      slice_get ascent (suc k) ≡ Some new → AreRaisedPrices net w old new
