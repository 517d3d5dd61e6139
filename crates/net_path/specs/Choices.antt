-- The choice of a place to come to.
use Rattle.std.specs.Prelude.{◌≡◌, ℕ, ◌<◌, ◌^◌, ℤ, pos, ◌+ℤ◌, ◌≤ℤ◌, ◌<ℤ◌, List, Option, None}
use Rattle.std.specs.Prelude.{IsTrue, slice_index_or}
use Rattle.std.specs.Option.{MatchOption}
use Rattle.pra_base.specs.declared.ids.Place.{Place}
use Rattle.pra_base.specs.Places.{number, place_count}
use Rattle.net_path.specs.declared.path.Choice.{Choice}
use Rattle.net_path.specs.Ways.{at}
use Rattle.net_path.specs.Rests.{Terrain, IsLowest}

-- to come to this place, where the way costs so much and the row has what is paid from there on
pub record IsChoice (way : ℕ → ℤ) (costs : List ℤ) (to : Place) (choice : Choice) : Type 0 where
  pub place : choice.place ≡ to
  pub is : choice.debt.cost ≡ way (number to) +ℤ at costs (number to)

-- the best of the first n places, or as good
pub record IsBestChoice (way : ℕ → ℤ) (costs : List ℤ) (n : ℕ) (choice : Choice) : Type 0 where
  pub is : choice.debt.cost ≡ way (number choice.place) +ℤ at costs (number choice.place)
  pub below : (k : ℕ) → k < n → choice.debt.cost ≤ℤ (way k +ℤ at costs k)

pub record IsBestPlace (way : ℕ → ℤ) (costs : List ℤ) (to : Place) : Type 0 where
  pub below : (k : ℕ) → k < place_count →
      (way (number to) +ℤ at costs (number to)) ≤ℤ (way k +ℤ at costs k)

-- a path may begin there, and none of the places is better
pub record IsGoodStart (t : Terrain) (costs : List ℤ) (start : Place) : Type 0 where
  pub comes : IsTrue (t.may_come 0 None start)
  pub best : IsLowest t 0 None costs (t.way 0 None start +ℤ at costs (number start))

-- what is paid from a place where the path begins, or that it is too much for any path
abbrev pub IsStart : (ℕ → ℤ) → List ℤ → ℕ → Option ℤ → Type 0
IsStart way costs p o =
    MatchOption o (pos (2 ^ 61) ≤ℤ (way p +ℤ at costs p))
    (λ z. (z ≡ way p +ℤ at costs p) × (z <ℤ pos (2 ^ 61)))

-- of the first n places
abbrev pub AreStartCosts : (ℕ → ℤ) → List ℤ → ℕ → List (Option ℤ) → Type 0
AreStartCosts way costs n starts =
    (p : ℕ) → p < n → IsStart way costs p (slice_index_or starts p None)
