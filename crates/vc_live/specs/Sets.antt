-- A set of numbers as words of 64 bits.
use Rattle.std.specs.Prelude.{ℕ, ◌-◌, ◌/◌, ◌%◌, ◌^◌, Bool, nat_eq, List, slice_index, sum_by}
use Rattle.std.specs.Int.{bit_at}

unfoldable pub contains : List ℕ → ℕ → Bool
contains set v = nat_eq (bit_at (slice_index set (v / 64)) (v % 64)) 1

-- a word has the bit of this number
abbrev pub has_bit : ℕ → ℕ → Bool
has_bit word i = nat_eq (bit_at word i) 1

-- how far the words are from their greatest value
abbrev pub room_in : ℕ → ℕ
room_in word = 2 ^ 64 - 1 - word

unfoldable pub room : List ℕ → ℕ
room set = sum_by room_in set
