-- What least paths cost from each place at which a strand may begin, and to each at which it may
-- end.
use Rattle.std.specs.Prelude.{ℕ, ◌<◌, ℤ, List, Option, Some, None, slice_index_or}
use Rattle.std.specs.Option.{MatchOption}
use Rattle.pra_base.specs.declared.ids.Place.{Place}
use Rattle.pra_base.specs.Places.{number}
use Rattle.net_cost.specs.declared.weights.Weights.{Weights}
use Rattle.net_form.specs.declared.net.Net.{Net}
use Rattle.net_form.specs.declared.prices.Prices.{Prices}
use Rattle.net_form.specs.declared.routes.Ends.{Ends}
use Rattle.net_form.specs.declared.taken.Taken.{Taken}
use Rattle.net_form.specs.InUse.{UsesNothing}
use Rattle.net_dual.specs.Priced.{edge_price}
use Rattle.net_dual.specs.Paths.{IsLeastCost, MayGo}

-- from this place to that one, or to wherever
abbrev pub starting : Option Place → Place → Ends
starting last p = record { first = Some p; last = last }

-- what is least of the paths of strand s from place p, or that there is none
abbrev pub IsCostFrom : Net → Weights → Prices → Taken → ℕ → Option Place → Place → Option ℤ →
    Type 0
IsCostFrom net w prices taken s last p o =
    MatchOption o
    ((ps : List Place) → MayGo net (starting last p) (UsesNothing net taken) s ps → ⊥)
    (IsLeastCost net (edge_price net w prices) (starting last p) (UsesNothing net taken) s)

-- for the places of lower numbers than k
abbrev pub AreCostsFrom
    : Net → Weights → Prices → Taken → ℕ → Option Place → ℕ → List (Option ℤ) → Type 0
AreCostsFrom net w prices taken s last k costs =
    (p : Place) → number p < k →
    IsCostFrom net w prices taken s last p (slice_index_or costs (number p) None)

-- from that place, or from wherever, to this one
abbrev pub stopping : Option Place → Place → Ends
stopping first p = record { first = first; last = Some p }

-- what is least of the paths of strand s to place p, or that there is none
abbrev pub IsCostTo : Net → Weights → Prices → Taken → ℕ → Option Place → Place → Option ℤ → Type 0
IsCostTo net w prices taken s first p o =
    MatchOption o
    ((ps : List Place) → MayGo net (stopping first p) (UsesNothing net taken) s ps → ⊥)
    (IsLeastCost net (edge_price net w prices) (stopping first p) (UsesNothing net taken) s)

abbrev pub AreCostsTo
    : Net → Weights → Prices → Taken → ℕ → Option Place → ℕ → List (Option ℤ) → Type 0
AreCostsTo net w prices taken s first k costs =
    (p : Place) → number p < k →
    IsCostTo net w prices taken s first p (slice_index_or costs (number p) None)
