-- Routes that are given for the procedures of a module.
use Rattle.std.specs.Prelude.{◌≡◌, ℕ, ◌<◌, ◌^◌, List, slice_get, Some}
use Rattle.pra_base.specs.declared.code.VProc.{VProc}
use Rattle.net_form.specs.declared.net.Net.{Net}
use Rattle.net_form.specs.declared.prices.Line.{Line}
use Rattle.net_form.specs.declared.prices.Prices.{Prices}
use Rattle.net_form.specs.declared.routes.Routes.{Routes}
use Rattle.pra_compile.specs.declared.given.GivenRoutes.{GivenRoutes}
use Rattle.pra_compile.specs.Leaving.{Leaving, no_prices, lines_of}
use Rattle.pra_follow.specs.Codes.{AreAdmittedIn}

-- There are routes for procedure p, and the network of its code admits them.
pub record AdmitsGiven (given : List GivenRoutes) (p : ℕ) (code : VProc) : Type 0 where
  pub own : GivenRoutes
  pub there : slice_get given p ≡ Some own
  pub net : Net
  pub admitted : AreAdmittedIn code net own.routes

-- These are the routes that are given. Of lines there is one, with the cost and the bound that are
-- given with them, which are of 64 bits; of prices there is none.
pub record IsLeftWith (own : GivenRoutes) (routes : Routes) (prices : Prices) (lines : List Line)
    : Type 0 where
  pub same : routes ≡ own.routes
  pub none : prices ≡ no_prices
  pub one : lines ≡ lines_of own.cost own.bound
  pub small_cost : own.cost < 2 ^ 64
  pub small_bound : own.bound < 2 ^ 64

-- what is left with the routes that are given for procedure p
pub record IsOfGiven (given : List GivenRoutes) (p : ℕ) (routes : Routes) (prices : Prices)
    (lines : List Line) : Type 0 where
  pub own : GivenRoutes
  pub there : slice_get given p ≡ Some own
  pub left : IsLeftWith own routes prices lines

abbrev pub given_by : List GivenRoutes → Leaving
given_by given p net routes prices lines = IsOfGiven given p routes prices lines
