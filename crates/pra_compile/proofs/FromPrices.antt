-- What bounds can come from prices.
use Rattle.std.proofs.Common.{◌≡◌, ℕ, ◌≤◌, ℤ, List, Some}
use Rattle.std.specs.Prelude.{slice_get}
use Rattle.net_cost.specs.declared.weights.Weights.{Weights}
use Rattle.net_form.specs.declared.net.Net.{Net}
use Rattle.net_form.specs.declared.prices.Line.{Line}
use Rattle.net_form.specs.Admitted.{IsAdmitted}
use Rattle.net_form.specs.Cost.{cost_of}
use Rattle.net_form.specs.Flow.{Edge}
use Rattle.net_form.specs.Formed.{IsFormed}
use Rattle.net_form.specs.Rooms.{zero_prices}
use Rattle.net_dual.specs.Value.{IsLagrange, IsFreeBound}
use Rattle.al_round.specs.Stages.{IsRoundedUp}
use Rattle.al_round.proofs.Bounds.{first_bound, first_is_free, bound_holds, bound_above_free}
use Rattle.pra_compile.specs.Mechanism.{ComeFromPrices}

module _ (net : Net) (w : Weights) (lines : List Line) (from : ComeFromPrices net w lines)
    (line : Line) where
  -- the bound of round 0 is what prices of nothing are worth, rounded up
  pub first_is_value : (z : ℤ) → slice_get lines 0 ≡ Some line
      → IsLagrange net w (zero_prices net) z → IsRoundedUp z line.bound
  first_is_value z there is = first_bound net w from.stages from.come.are_stages
      (from.come.bounds 0 line there).0 line.bound (from.come.bounds 0 line there).1 z is

  -- which is what strands cost at least, each alone
  pub first_free : (free : ℕ) → slice_get lines 0 ≡ Some line → IsFreeBound net w free
      → line.bound ≡ free
  first_free free there is = first_is_free net w from.stages from.come.are_stages
      (from.come.bounds 0 line there).0 line.bound (from.come.bounds 0 line there).1 free is

  module _ (k : ℕ) (there : slice_get lines k ≡ Some line) where
    -- no bound is less
    pub no_less : (free : ℕ) → IsFreeBound net w free → free ≤ line.bound
    no_less free is = bound_above_free net w from.stages from.come.are_stages k
        (from.come.bounds k line there).0 line.bound (from.come.bounds k line there).1 free is

    -- and none is more than what an admitted flow costs
    pub no_more : (f : List Edge) → IsFormed net → IsAdmitted net f → line.bound ≤ cost_of net w f
    no_more f formed a = bound_holds net w from.stages from.come.are_stages k
        (from.come.bounds k line there).0 line.bound (from.come.bounds k line there).1 formed f a
