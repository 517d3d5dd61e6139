-- What all places cost the strands of a tie group, strand after strand.
use Rattle.std.specs.Prelude.{◌≡◌, ℕ, ◌^◌, ◌<◌, Bool, true, false, ℤ, pos, ◌+ℤ◌, ◌≤ℤ◌, List}
use Rattle.std.specs.Prelude.{Option, None, unwrap_or, slice_index_or}
use Rattle.pra_base.specs.declared.ids.Place.{Place}
use Rattle.pra_base.specs.Places.{number, allows, place_count}
use Rattle.net_cost.specs.declared.weights.Weights.{Weights}
use Rattle.net_form.specs.declared.net.Net.{Net}
use Rattle.net_form.specs.declared.prices.Prices.{Prices}
use Rattle.al_edge.specs.OpenPlaces.{IsInMasks}
use Rattle.al_edge.specs.Weighed.{IsCostAt, IsWeight}

-- whether place number k is open
abbrev pub opened : List Bool → ℕ → Bool
opened opens k = slice_index_or opens k false

abbrev pub number_at : List ℤ → ℕ → ℤ
number_at xs k = slice_index_or xs k (pos 0)

-- for the places of lower numbers than k
abbrev pub AreOpenBelow : ℕ → ℕ → List Bool → Type 0
AreOpenBelow mask k opens =
    (p : Place) → number p < k → opened opens (number p) ≡ allows mask (number p)

abbrev pub AreInMasks : Net → ℕ → List Bool → Type 0
AreInMasks net g opens = (p : Place) → opened opens (number p) ≡ true → IsInMasks net g p

-- what strand s costs at the open places of lower numbers than k
abbrev pub AreCostsBelow
    : Net → Weights → Prices → ℕ → ℕ → List Bool → ℕ → List ℤ → Type 0
AreCostsBelow net w prices g s opens k costs =
    (p : Place) → number p < k → opened opens (number p) ≡ true →
    IsCostAt net w prices g p s (number_at costs (number p))

abbrev pub AreKnown : List (Option ℤ) → ℕ → List ℤ → Type 0
AreKnown found k costs =
    (i : ℕ) → i < k → number_at costs i ≡ unwrap_or (slice_index_or found i None) (pos 0)

-- each of the numbers of places is about so great at most
abbrev pub AreWide : ℕ → List ℤ → Type 0
AreWide b xs =
    (k : ℕ) → k < place_count → (pos 0 ≤ℤ (number_at xs k +ℤ pos b)) × (number_at xs k ≤ℤ pos b)

-- a number of 64 bits is added
pub record IsCostAdded (old cost new : ℤ) : Type 0 where
  pub sum : new ≡ old +ℤ cost
  pub low : old ≤ℤ (new +ℤ pos (2 ^ 63))
  pub high : new ≤ℤ (old +ℤ pos (2 ^ 63))

abbrev pub AreCostsAdded : List ℤ → List ℤ → List ℤ → Type 0
AreCostsAdded old costs new =
    (k : ℕ) → k < place_count → IsCostAdded (number_at old k) (number_at costs k) (number_at new k)

-- of each open place what it costs the strands of the group
abbrev pub AreTotals : Net → Weights → Prices → ℕ → List Bool → List ℤ → Type 0
AreTotals net w prices g opens totals =
    (p : Place) → opened opens (number p) ≡ true →
    IsWeight net w prices g p (number_at totals (number p))
