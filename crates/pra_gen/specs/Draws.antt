-- The random numbers that modules are made of: a linear congruential generator, with multiplier,
-- increment and discarded low bits as in the sample of rand in the C standard (ISO/IEC 9899:1999,
-- section 7.20.2.2), here modulo 2^31.
use Rattle.std.specs.Prelude.{ℕ, ◌+◌, ◌*◌, ◌/◌, ◌%◌, suc, zero}

abbrev pub next_state : ℕ → ℕ
next_state x = (1103515245 * x + 12345) % 2147483648

-- the state after n draws, beginning at x
unfoldable pub state_after : ℕ → ℕ → ℕ
state_after x zero = x
state_after x (suc n) = next_state (state_after x n)

-- what the n-th draw gives, counted from 1
abbrev pub draw : ℕ → ℕ → ℕ
draw x n = state_after x n / 65536
