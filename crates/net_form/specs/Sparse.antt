-- Numbers in rows of thirteen, of which most are rows of zeros that share one place.
use Rattle.std.specs.Prelude.{◌≡◌, ℕ, suc, zero, ℤ, pos, Bool, true, false, ◌+◌, ◌*◌, ◌/◌, ◌%◌}
use Rattle.std.specs.Prelude.{◌^◌, ◌<◌, ◌≤◌, List, map, length, count_by, slice_index_or}
use Rattle.std.specs.List.{range_with_len}

-- The number at an index: that of its slot, in the thirteen that its row leads to.
abbrev pub number_at : List ℕ → List ℤ → ℕ → ℤ
number_at rows numbers k =
    slice_index_or numbers (13 * slice_index_or rows (k / 13) 0 + k % 13) (pos 0)

-- The list that is meant: thirteen numbers for each row.
unfoldable pub flat : List ℕ → List ℤ → List ℤ
flat rows numbers = map (number_at rows numbers) (range_with_len 0 (13 * length rows))

-- whether a row has thirteen numbers of its own
abbrev pub has_own : ℕ → Bool
has_own zero = false
has_own (suc _) = true

-- The first thirteen numbers are 0, and those of rows that have none of their own. No two rows
-- share others. There are no more numbers than those, and there is room for those of all rows.
pub record AreRowsOf (rows : List ℕ) (numbers : List ℤ) (capacity : ℕ) : Type 0 where
  pub there : (t : ℕ) → t < length rows → 13 * slice_index_or rows t 0 + 13 ≤ length numbers
  pub apart : (t u : ℕ) → slice_index_or rows t 0 ≡ slice_index_or rows u 0
      → 0 < slice_index_or rows t 0 → t ≡ u
  pub zeros : (slot : ℕ) → slot < 13 → slice_index_or numbers slot (pos 0) ≡ pos 0
  pub whole : length numbers % 13 ≡ 0
  pub full : length numbers ≤ 13 + 13 * count_by has_own rows
  pub room : 0 < length rows → 13 + 13 * length rows ≤ capacity
  pub few : length rows < 2 ^ 32
