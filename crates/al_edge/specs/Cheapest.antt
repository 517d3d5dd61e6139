-- The place that costs least.
use Rattle.std.specs.Prelude.{◌≡◌, ◌⊎◌, ℕ, ◌<◌, ◌≤◌, ℤ, ◌<ℤ◌, ◌≤ℤ◌, List, Option, Some, None}
use Rattle.std.specs.Prelude.{slice_index_or}
use Rattle.pra_base.specs.declared.ids.Place.{Place}
use Rattle.pra_base.specs.Places.{number}
use Rattle.al_edge.specs.declared.cheapest.Weighed.{Weighed}

abbrev pub slot : List (Option ℤ) → Place → Option ℤ
slot weights p = slice_index_or weights (number p) None

-- p has the least weight, and is the first place that has it
pub record IsCheapest (weights : List (Option ℤ)) (p : Place) : Type 0 where
  pub weight : ℤ
  pub is : slot weights p ≡ Some weight
  pub first : (q : Place) (y : ℤ) → slot weights q ≡ Some y →
      (weight <ℤ y) ⊎ ((weight ≡ y) × (number p ≤ number q))

-- one costs less, or both the same and the one before it is kept
abbrev pub IsLesser : Option Weighed → Weighed → Weighed → Type 0
IsLesser None next result = result ≡ next
IsLesser (Some best) next result =
    ((next.weight <ℤ best.weight) × (result ≡ next)) ⊎
    ((best.weight ≤ℤ next.weight) × (result ≡ best))

-- the same, of the places of lower numbers than k
pub record IsCheapestBelow (weights : List (Option ℤ)) (k : ℕ) (best : Weighed) : Type 0 where
  pub is : slot weights best.place ≡ Some best.weight
  pub below : number best.place < k
  pub first : (q : Place) (y : ℤ) → number q < k → slot weights q ≡ Some y →
      (best.weight <ℤ y) ⊎ ((best.weight ≡ y) × (number best.place ≤ number q))

-- if any of them has a weight
abbrev pub IsBestBelow : List (Option ℤ) → ℕ → Option Weighed → Type 0
IsBestBelow weights k None = (q : Place) → number q < k → slot weights q ≡ None
IsBestBelow weights k (Some best) = IsCheapestBelow weights k best
