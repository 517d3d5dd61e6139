-- What may be known of what an allocator leaves of a procedure.
use Rattle.std.specs.Prelude.{ℕ, List, [], ◌∷◌}
use Rattle.net_form.specs.declared.net.Net.{Net}
use Rattle.net_form.specs.declared.prices.Line.{Line}
use Rattle.net_form.specs.declared.prices.Prices.{Prices}
use Rattle.net_form.specs.declared.routes.Routes.{Routes}

-- a fact of a procedure's number and of its network, routes, prices and lines
abbrev pub Leaving : Type 1
Leaving = ℕ → Net → Routes → Prices → List Line → Type 0

-- ---- what is kept beside routes that are given

abbrev pub no_prices : Prices
no_prices = record { caps = []; mems = []; ties = [] }

-- one line, with the cost and the bound that are said of them
abbrev pub lines_of : ℕ → ℕ → List Line
lines_of cost bound = record { round = 0; cost = cost; bound = bound } ∷ []
