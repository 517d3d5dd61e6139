-- What places cost the strands of a tie group.
use Rattle.std.specs.Prelude.{◌≡◌, ℕ, ◌<◌, ℤ, Bool, true, false, List, length, All}
use Rattle.std.specs.Prelude.{Option}
use Rattle.std.specs.Option.{MatchOption}
use Rattle.std.specs.List.{range_with_len}
use Rattle.pra_base.specs.declared.ids.Place.{Place}
use Rattle.pra_base.specs.Places.{number, place_count}
use Rattle.net_cost.specs.declared.weights.Weights.{Weights}
use Rattle.net_form.specs.declared.net.Net.{Net}
use Rattle.net_form.specs.declared.net.TieEnd.{TieEnd}
use Rattle.net_form.specs.declared.prices.Prices.{Prices}
use Rattle.net_dual.specs.Paths.{Anywhere, IsLeastCost}
use Rattle.net_dual.specs.Priced.{total, pay, edge_price}
use Rattle.al_laws.specs.Greedy.{has_end, group_ends, Outranks}
use Rattle.al_edge.specs.Cheapest.{slot}
use Rattle.al_edge.specs.GroupEnds.{counts}
use Rattle.al_edge.specs.OpenPlaces.{suits_all}

-- what strand s costs at least with its ends in group g at place p
abbrev pub IsCostAt : Net → Weights → Prices → ℕ → Place → ℕ → ℤ → Type 0
IsCostAt net w prices g p s z =
    IsLeastCost net (edge_price net w prices) (group_ends net g p s) Anywhere s z

-- z is the sum over the strands that are counted among some ends
pub record IsSumAt (net : Net) (w : Weights) (prices : Prices) (g : ℕ) (p : Place)
    (es : List TieEnd) (z : ℤ) : Type 0 where
  pub cost : ℕ → ℤ
  pub least : All
      (λ e. counts net g e ≡ true → IsCostAt net w prices g p e.strand (cost e.strand)) es
  pub sum : total (λ e. pay (counts net g e) (cost e.strand)) es ≡ z

-- what the strands with an end in group g cost, by what each costs
abbrev pub group_sum : Net → ℕ → (ℕ → ℤ) → ℤ
group_sum net g cost =
    total (λ s. pay (has_end net g s) (cost s)) (range_with_len 0 (length net.strands))

-- z is the sum over all strands with an end in the group
pub record IsWeight (net : Net) (w : Weights) (prices : Prices) (g : ℕ) (p : Place) (z : ℤ)
    : Type 0 where
  pub cost : ℕ → ℤ
  pub least : (s : ℕ) → s < length net.strands → has_end net g s ≡ true →
      IsCostAt net w prices g p s (cost s)
  pub sum : group_sum net g cost ≡ z

-- ---- a weight for each open place

abbrev pub IsSlot : Net → Weights → Prices → List ℕ → ℕ → Place → Option ℤ → Type 0
IsSlot net w prices regs g p o =
    MatchOption o (suits_all net regs g p ≡ false)
    (λ z. (suits_all net regs g p ≡ true) × IsWeight net w prices g p z)

-- for the places of lower numbers than k
pub record AreWeights (net : Net) (w : Weights) (prices : Prices) (regs : List ℕ) (g k : ℕ)
    (weights : List (Option ℤ)) : Type 0 where
  pub long : length weights ≡ place_count
  pub each : (p : Place) → number p < k → IsSlot net w prices regs g p (slot weights p)

-- of the places that are open, place p costs the strands of the group least
pub record IsLightest (net : Net) (w : Weights) (prices : Prices) (is_open : Place → Bool) (g : ℕ)
    (p : Place) : Type 0 where
  pub least : Place → ℕ → ℤ
  pub costs : (q : Place) (s : ℕ) → is_open q ≡ true → s < length net.strands →
      has_end net g s ≡ true → IsCostAt net w prices g q s (least q s)
  pub opened : is_open p ≡ true
  pub first : (q : Place) → is_open q ≡ true → Outranks (λ q. group_sum net g (least q)) p q
