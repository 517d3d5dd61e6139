-- Numbers that may be there, as in a row of costs: the least of some, and how large they are.
use Rattle.std.specs.Prelude.{◌≡◌, ℕ, ◌<◌, ℤ, ◌≤ℤ◌, List, slice_index_or, Option, Some, None}
use Rattle.std.specs.Prelude.{IfSome}
use Rattle.net_dual.specs.Small.{IsWithin}

-- the least of the first n
abbrev pub IsLeastOf : (ℕ → Option ℤ) → ℕ → Option ℤ → Type 0
IsLeastOf f n None = (k : ℕ) → k < n → f k ≡ None
IsLeastOf f n (Some z) =
    ((k : ℕ) × (k < n) × (f k ≡ Some z)) ×
    ((k : ℕ) (d : ℤ) → k < n → f k ≡ Some d → z ≤ℤ d)

-- what a row has for the place of a number
abbrev pub cost_at : List (Option ℤ) → ℕ → Option ℤ
cost_at row k = slice_index_or row k None

abbrev pub IsCostWithin : ℕ → Option ℤ → Type 0
IsCostWithin n cost = IfSome cost (IsWithin n)
