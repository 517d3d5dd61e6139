-- The bound that no allocation beats: the value of the Lagrangian relaxation (Koes and Goldstein,
-- PLDI 2006, section 3), and the least costs of strands alone, which are that at prices of nothing.
use Rattle.std.specs.Prelude.{◌≡◌, ℕ, ◌+◌, ℤ, pos, ◌-ℤ◌, length, sum}
use Rattle.std.specs.List.{range_with_len}
use Rattle.net_cost.specs.declared.weights.Weights.{Weights}
use Rattle.net_form.specs.declared.net.Net.{Net}
use Rattle.net_form.specs.declared.prices.Prices.{Prices}
use Rattle.net_form.specs.declared.routes.Routes.{Routes}
use Rattle.net_form.specs.Flow.{Edge}
use Rattle.net_dual.specs.Priced.{total, priced, cost_by_weights}
use Rattle.net_dual.specs.Paths.{path_price, path_in, AreLeast}

-- the sum over the strands of what their paths cost
abbrev pub routes_price : Net → (Edge → ℤ) → Routes → ℤ
routes_price net price routes =
    total (λ s. path_price net price s (path_in routes s))
    (range_with_len 0 (length net.strands))

-- all that is paid where each register at each layer and each memory pair is used once
abbrev pub all_paid : Prices → ℕ
all_paid prices = sum prices.caps + sum prices.mems

-- The sum over the strands of the least priced cost of a path, minus the sum of all cap and mem
-- prices, in units of a price. The family shows what the least costs are.
pub record IsValue (net : Net) (cost : Edge → ℕ) (prices : Prices) (family : Routes) (z : ℤ)
    : Type 0 where
  pub least : AreLeast net (priced net cost prices) family
  pub is : z ≡ routes_price net (priced net cost prices) family -ℤ pos (all_paid prices)

pub record IsLagrange (net : Net) (w : Weights) (prices : Prices) (z : ℤ) : Type 0 where
  pub family : Routes
  pub value : IsValue net (cost_by_weights net w) prices family z

-- the sum over the strands of the least cost of a path of that strand alone
pub record IsFreeBound (net : Net) (w : Weights) (bound : ℕ) : Type 0 where
  pub family : Routes
  pub least : AreLeast net (λ e. pos (cost_by_weights net w e)) family
  pub is : pos bound ≡ routes_price net (λ e. pos (cost_by_weights net w e)) family
