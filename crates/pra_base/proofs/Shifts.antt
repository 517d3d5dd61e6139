-- Shifted words.
use Rattle.std.proofs.Common.{◌≡◌, ℕ, ◌*◌, ◌/◌, ◌%◌, ◌^◌, ◌<◌, ap, arith}
use Rattle.std.specs.Prelude.{ℤ, pos, negsuc}
use Rattle.std.specs.Int.{w32, int_shr}
use Rattle.std.specs.Int.RustNames.{FitsSigned}
use Rattle.std.proofs.lemmas.Int.{ints}
use Rattle.std.proofs.lemmas.Nat.{shr_le}
use Rattle.pra_base.specs.declared.ids.ShiftOp.{ShiftOp}
use Rattle.pra_base.specs.declared.ids.ShiftOp.TheVariants.{Shl, Shr, Sar}
use Rattle.pra_base.specs.Words.{word, signed, shifted}

-- the low five bits of a count are the count
pub shifted_low : (op : ShiftOp) (a n : ℕ) → shifted op a (n % 32) ≡ shifted op a n
shifted_low Shl a n = ap (λ k. a * 2 ^ k % 2 ^ 32) (omega arith)
shifted_low Shr a n = ap (λ k. a / 2 ^ k) (omega arith)
shifted_low Sar a n = ap (λ k. word (int_shr (signed a) k)) (omega arith)

word_small : (z : ℤ) → FitsSigned w32 z → word z < 2 ^ 32
word_small z f = omega (arith, ints, f)

-- a number shifted down is no farther from 0, or from -1
pub shift_fits : (z : ℤ) (k : ℕ) → FitsSigned w32 z → FitsSigned w32 (int_shr z k)
shift_fits (pos n) k f = omega (arith, ints, shr_le n k, f)
shift_fits (negsuc n) k f = omega (arith, ints, shr_le n k, f)

-- a word shifted is a word
pub shifted_small : (op : ShiftOp) (a n : ℕ) → a < 2 ^ 32 → shifted op a n < 2 ^ 32
shifted_small Shl a n h = omega arith
shifted_small Shr a n h = omega (arith, shr_le a (n % 32), h)
shifted_small Sar a n h = word_small (int_shr (signed a) (n % 32))
    (shift_fits (signed a) (n % 32) (omega (arith, ints, h)))
