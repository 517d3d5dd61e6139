-- Words of 32 bits, as naturals below 2^32: their arithmetic with wrapping, the signed number that
-- a word is in two's complement (Intel SDM volume 1, section 4.2.1.2), comparison, and division.
-- All layers compute with these.
use Rattle.std.specs.Prelude.{◌≡◌, ℕ, ◌+◌, ◌-◌, ◌*◌, ◌/◌, ◌%◌, ◌^◌, ◌<◌, ℤ, pos, negsuc, ◌+ℤ◌, ◌-ℤ◌}
use Rattle.std.specs.Prelude.{◌*ℤ◌, ◌≤ℤ◌, ◌<ℤ◌, Bool, true, false, not, ◌==◌, nat_lt, nat_le}
use Rattle.std.specs.Prelude.{int_lt, int_le, int_div, int_rem, if◌then◌else◌}
use Rattle.std.specs.Int.{w32, cast_signed, cast_unsigned}
use Rattle.std.specs.Int.RustNames.{unsigned_abs}
use Rattle.std.specs.Int.{int_shr}
use Rattle.pra_base.specs.declared.ids.ShiftOp.{ShiftOp}
use Rattle.pra_base.specs.declared.ids.ShiftOp.TheVariants.{Shl, Shr, Sar}
use Rattle.pra_base.specs.declared.ids.Cond.{Cond}
use Rattle.pra_base.specs.declared.ids.Cond.TheVariants.{B, Ae, E, Ne, Be, A, S, Ns, L, Ge, Le, G}

-- the word of a number that fits 32 bits in two's complement (of another it is not the one modulo
-- 2^32: see int_wrap)
abbrev pub word : ℤ → ℕ
word n = cast_unsigned w32 n

-- the number that a word is in two's complement
abbrev pub signed : ℕ → ℤ
signed a = cast_signed w32 a

-- the sign bit
abbrev pub sign : ℕ → Bool
sign a = nat_le (2 ^ 31) a

-- whether a number is one of 32 bits in two's complement
abbrev pub fits_word : ℤ → Bool
fits_word (pos n) = nat_lt n (2 ^ 31)
fits_word (negsuc n) = nat_lt n (2 ^ 31)

-- sum, difference and product, modulo 2^32
abbrev pub sum32 : ℕ → ℕ → ℕ
sum32 a b = (a + b) % 2 ^ 32

abbrev pub diff32 : ℕ → ℕ → ℕ
diff32 a b = (a + (2 ^ 32 - b)) % 2 ^ 32

abbrev pub product32 : ℕ → ℕ → ℕ
product32 a b = a * b % 2 ^ 32

-- quotient and remainder of signed numbers, rounded toward zero, as IDIV gives them
abbrev pub quotient32 : ℕ → ℕ → ℕ
quotient32 a d = word (int_div (signed a) (signed d))

abbrev pub remainder32 : ℕ → ℕ → ℕ
remainder32 a d = word (int_rem (signed a) (signed d))

-- a word shifted by a count, of which the low five bits count (SDM volume 2, SAL/SAR/SHL/SHR): to
-- the left, to the right with zeros, and to the right with the sign, which divides and rounds down
abbrev pub shifted : ShiftOp → ℕ → ℕ → ℕ
shifted Shl a n = a * 2 ^ (n % 32) % 2 ^ 32
shifted Shr a n = a / 2 ^ (n % 32)
shifted Sar a n = word (int_shr (signed a) (n % 32))

-- above 0 as a signed number
abbrev pub is_positive : ℕ → Bool
is_positive a = int_lt (pos 0) (signed a)

abbrev pub truth : Bool → ℕ
truth true = 1
truth false = 0

-- What a condition says of two words that were compared by CMP: below and above are of numbers
-- without a sign, less and greater of signed numbers, S and NS of the difference's sign bit (SDM
-- volume 2, Jcc).
abbrev pub compares : Cond → ℕ → ℕ → Bool
compares B a b = nat_lt a b
compares Ae a b = nat_le b a
compares E a b = a == b
compares Ne a b = not (a == b)
compares Be a b = nat_le a b
compares A a b = nat_lt b a
compares S a b = sign (diff32 a b)
compares Ns a b = not (sign (diff32 a b))
compares L a b = int_lt (signed a) (signed b)
compares Ge a b = int_le (signed b) (signed a)
compares Le a b = int_le (signed a) (signed b)
compares G a b = int_lt (signed b) (signed a)

-- ---- division

-- q and r are quotient and remainder of x by d, rounded toward zero: the remainder has the sign of
-- x
pub record IsTruncated (x d q r : ℤ) : Type 0 where
  pub whole : q *ℤ d +ℤ r ≡ x
  pub small : unsigned_abs r < unsigned_abs d
  pub above : pos 0 ≤ℤ x → pos 0 ≤ℤ r
  pub below : x ≤ℤ pos 0 → r ≤ℤ pos 0

-- the same, rounded down, as DIV and MOD by a positive number are in Oberon (Wirth, The Programming
-- Language Oberon, section 8.2.2)
pub record IsFloored (x d q r : ℤ) : Type 0 where
  pub whole : q *ℤ d +ℤ r ≡ x
  pub low : pos 0 ≤ℤ r
  pub high : r <ℤ d

-- DIV and MOD by a positive number: one less than the truncated quotient, and the divisor more than
-- its remainder, where that is negative
abbrev pub floored_quotient : ℤ → ℤ → ℤ
floored_quotient x d = if int_lt (int_rem x d) (pos 0) then int_div x d -ℤ pos 1 else int_div x d

abbrev pub floored_remainder : ℤ → ℤ → ℤ
floored_remainder x d = if int_lt (int_rem x d) (pos 0) then int_rem x d +ℤ d else int_rem x d

-- ---- the stack

-- how many bytes the frames of live calls may have together
abbrev pub stack_limit : ℕ
stack_limit = 1048576
