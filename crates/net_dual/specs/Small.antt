-- How large priced sums are.
use Rattle.std.specs.Prelude.{ℕ, ◌+◌, ◌-◌, ◌*◌, ◌^◌, ℤ, pos, ◌-ℤ◌, ◌≤ℤ◌}
use Rattle.net_laws.specs.Built.{most_following, most_blocks}

-- it is neither greater than n nor less than minus n
pub record IsWithin (n : ℕ) (z : ℤ) : Type 0 where
  pub low : (pos 0 -ℤ pos n) ≤ℤ z
  pub high : z ≤ℤ pos n

-- An edge meets three events at most, which weigh less than six of the greatest price, and pays one
-- cap price and one mem price.
abbrev pub most_of_edge : ℕ
most_of_edge = 8

-- An exit has two ties at most, an entry one from each block.
abbrev pub most_of_ends : ℕ
most_of_ends = most_following + most_blocks

-- what a path of so many layers costs at most, in greatest prices
abbrev pub most_of_path : ℕ → ℕ
most_of_path n = most_of_edge * n + most_of_ends

-- so small that sums of them fit 64 bits
abbrev pub most_sum : ℕ
most_sum = 2 ^ 60 - 1
