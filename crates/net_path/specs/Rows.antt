-- Rows of what is paid at each layer of a strand, and of what is paid from each layer on.
use Rattle.std.specs.Prelude.{◌≡◌, ◌≢◌, ◌⊎◌, ℕ, suc, ◌+◌, ◌-◌, ◌*◌, ◌%◌, ◌^◌, ◌<◌, Bool, true}
use Rattle.std.specs.Prelude.{false, ℤ, pos, ◌+ℤ◌, ◌≤ℤ◌, ◌<ℤ◌, List, [], length, slice_index_or}
use Rattle.std.specs.Prelude.{Option, Some}
use Rattle.std.specs.Prelude.{IsTrue}
use Rattle.pra_base.specs.declared.ids.Place.{Place}
use Rattle.pra_base.specs.Places.{number, place_count}
use Rattle.net_form.specs.Flow.{same_place}
use Rattle.net_path.specs.declared.crossbar.Row.{Row}
use Rattle.net_path.specs.Ways.{at, IsLeastWay}
use Rattle.net_path.specs.Rests.{unreached, Terrain}

abbrev pub no_row : Row
no_row = record { costs = []; seconds = [] }

-- the costs of row k, for the k-th layer of the strand
abbrev pub costs_at : List Row → ℕ → List ℤ
costs_at rows k = (slice_index_or rows k no_row).costs

-- rows of the same costs
pub record HaveSameCosts (old new : List Row) : Type 0 where
  pub long : length new ≡ length old
  pub same : (k : ℕ) → costs_at new k ≡ costs_at old k

-- ---- bounds: of n layers the first and the last have ties

abbrev pub cell_bound : ℕ → ℕ → ℕ
cell_bound n k = 2 ^ 44 + 2 ^ 56 * (1 - k) + 2 ^ 56 * (1 - (n - suc k))

abbrev pub slack_at : ℕ → ℕ → ℕ
slack_at n k = 2 ^ 45 * (n - k) + 2 ^ 57 * (1 - (1 - (n - k))) + 2 ^ 57 * (1 - k)

abbrev pub IsAbout : ℕ → ℤ → Type 0
IsAbout b z = (pos 0 ≤ℤ (z +ℤ pos b)) × (z ≤ℤ pos b)

-- of each place what is paid there, or that it is closed
abbrev pub AreCellsWithin : List Row → Type 0
AreCellsWithin rows =
    (k p : ℕ) → k < length rows → p < place_count →
    (at (costs_at rows k) p ≡ unreached)
    ⊎ IsAbout (cell_bound (length rows) k) (at (costs_at rows k) p)

abbrev pub IsRowWithin : ℕ → List ℤ → Type 0
IsRowWithin b costs =
    (p : ℕ) → p < place_count →
    (pos 0 ≤ℤ (at costs p +ℤ pos b)) × (at costs p ≤ℤ (unreached +ℤ pos b))

-- ---- a terrain that a strand of n layers goes through, from a layer of the block on, where the
-- steps of crossbars cost so much

pub record IsGround (step : ℕ → ℕ → ℤ) (first n : ℕ) (t : Terrain) : Type 0 where
  pub across : (k : ℕ) (p q : Place) → (first + k) % 2 ≡ 0 →
      (t.may_come k (Some p) q ≡ same_place p q) × (t.way k (Some p) q ≡ pos 0)
  pub crossbar : (k : ℕ) (p q : Place) → (first + k) % 2 ≡ 1 →
      (t.may_come k (Some p) q ≡ true) ×
      (t.way k (Some p) q ≡ step (number p) (number q))
  pub way_low : (k : ℕ) (p : Option Place) (q : Place) → pos 0 ≤ℤ t.way k p q
  pub way_high : (k : ℕ) (p : Option Place) (q : Place) → t.way k p q ≤ℤ pos (2 ^ 43)
  pub cells : (k : ℕ) (q : Place) → k < n → IsTrue (t.is_open k q) →
      IsAbout (cell_bound n k) (t.cell k q)

-- the rows hold what is paid at each place, and that it is closed
abbrev pub IsCell : Bool → ℤ → ℤ → Type 0
IsCell true c z = z ≡ c
IsCell false c z = z ≡ unreached

abbrev pub AreCells : Terrain → List Row → Type 0
AreCells t rows =
    (k : ℕ) (q : Place) → k < length rows →
    IsCell (t.is_open k q) (t.cell k q) (at (costs_at rows k) (number q))

-- what is paid there and from there on, or that it is closed
-- room for a sum with what is left
abbrev pub IsCellWithin : ℤ → Type 0
IsCellWithin z = (z ≡ unreached) ⊎ IsAbout (2 ^ 60) z

abbrev pub AreCostsCells : List ℤ → Type 0
AreCostsCells costs = (p : ℕ) → p < place_count → IsCellWithin (at costs p)

pub record IsPaid (cell rest z : ℤ) : Type 0 where
  pub shut : cell ≡ unreached → z ≡ unreached
  pub opened : cell <ℤ pos (2 ^ 61) → z ≡ cell +ℤ rest

abbrev pub ArePaid : List ℤ → List ℤ → List ℤ → Type 0
ArePaid cells rests costs =
    (p : ℕ) → p < place_count → IsPaid (at cells p) (at rests p) (at costs p)

-- one place of a row is paid
pub record IsPaidAt (p : ℕ) (rest : ℤ) (old new : List ℤ) : Type 0 where
  pub others : (q : ℕ) → q ≢ p → at new q ≡ at old q
  pub here : IsPaid (at old p) rest (at new p)

-- what is paid there, and then what is least over all ways from there on
pub record IsPaidOver (way : ℕ → ℤ) (behind : List ℤ) (cell z : ℤ) : Type 0 where
  pub rest : ℤ
  pub least : IsLeastWay way behind rest
  pub paid : IsPaid cell rest z

abbrev pub ArePaidOver : (ℕ → ℕ → ℤ) → List ℤ → List ℤ → List ℤ → Type 0
ArePaidOver step behind cells costs =
    (p : ℕ) → p < place_count → IsPaidOver (step p) behind (at cells p) (at costs p)

-- a row from the row behind it, which is that of layer l of the block
pub record IsPaidLayer (step : ℕ → ℕ → ℤ) (l : ℕ) (behind cells costs : List ℤ) : Type 0 where
  pub across : l % 2 ≡ 0 → ArePaid cells behind costs
  pub crossbar : l % 2 ≡ 1 → ArePaidOver step behind cells costs
