-- Quotients and remainders that are rounded toward zero, and down.
use Rattle.std.proofs.Common.{◌≡◌, ℕ, zero, suc, ◌^◌, ◌≤◌, ◌<◌, Bool, true, false, refl, sym, ap}
use Rattle.std.proofs.Common.{◌∙◌, subst, arith}
use Rattle.std.specs.Prelude.{ℤ, pos, negsuc, ◌+ℤ◌, ◌-ℤ◌, ◌*ℤ◌, ◌≤ℤ◌, ◌<ℤ◌, int_lt, int_div}
use Rattle.std.specs.Prelude.{int_rem, if◌then◌else◌, IsTrue}
use Rattle.std.specs.Int.{w32}
use Rattle.std.specs.Int.RustNames.{FitsSigned, unsigned_abs}
use Rattle.std.proofs.lemmas.Bool.Decides.{nat_tests}
use Rattle.std.proofs.lemmas.Int.{ints, to_z-of_z, quot-rem, rem_below, fits_signed_from_abs}
use Rattle.std.proofs.lemmas.Int.{quot_fits}
use Rattle.std.proofs.Math.IntN.{suc_ℤ, suc_ℤ-*ℤ}
use Rattle.pra_base.specs.Words.{signed, is_positive, quotient32, remainder32, IsTruncated}
use Rattle.pra_base.specs.Words.{IsFloored, floored_quotient, floored_remainder}

rem_above : (x d : ℤ) → pos 0 ≤ℤ x → pos 0 ≤ℤ int_rem x d
rem_above (pos n) d h = omega (arith, ints)
rem_above (negsuc n) d h = absurd (omega (arith, ints))

rem_under : (x d : ℤ) → x ≤ℤ pos 0 → int_rem x d ≤ℤ pos 0
rem_under (pos zero) d h = omega (arith, ints)
rem_under (pos (suc n)) d h = absurd (omega (arith, ints))
rem_under (negsuc n) d h = omega (arith, ints)

-- ---- rounded toward zero

pub truncated : (x d : ℤ) → 0 < unsigned_abs d → IsTruncated x d (int_div x d) (int_rem x d)
truncated x d some = record {
  whole = quot-rem x d;
  small = rem_below x d some;
  above = rem_above x d;
  below = rem_under x d;
}

signed_fits : (a : ℕ) → a < 2 ^ 32 → FitsSigned w32 (signed a)
signed_fits a h = omega (arith, ints)

module _ (x d : ℕ) (fx : x < 2 ^ 32) (fd : d < 2 ^ 32) (up : IsTrue (is_positive d)) where
  positive : pos 0 <ℤ signed d
  positive = grind (arith, nat_tests)

  some : 0 < unsigned_abs (signed d)
  some = grind (arith, nat_tests)

  small : unsigned_abs (signed d) ≤ 2 ^ 31
  small = grind (arith, nat_tests)

  -- what was cast to 32 bits is read back
  pub signed-quotient32 : signed (quotient32 x d) ≡ int_div (signed x) (signed d)
  signed-quotient32 = to_z-of_z w32 (int_div (signed x) (signed d))
      (quot_fits w32 (signed x) (signed d) (signed_fits x fx) positive)

  pub signed-remainder32 : signed (remainder32 x d) ≡ int_rem (signed x) (signed d)
  signed-remainder32 =
      let below : unsigned_abs (int_rem (signed x) (signed d)) < unsigned_abs (signed d) =
      rem_below (signed x) (signed d) some in
      to_z-of_z w32 (int_rem (signed x) (signed d))
      (fits_signed_from_abs w32 (int_rem (signed x) (signed d)) (let m = small in omega arith))

  pub words_truncated : IsTruncated (signed x) (signed d) (signed (quotient32 x d))
      (signed (remainder32 x d))
  words_truncated =
      subst (λ q. IsTruncated (signed x) (signed d) q (signed (remainder32 x d)))
      (sym signed-quotient32)
      (subst (λ r. IsTruncated (signed x) (signed d) (int_div (signed x) (signed d)) r)
      (sym signed-remainder32) (truncated (signed x) (signed d) some))

-- ---- rounded down

suc_is : (z : ℤ) → suc_ℤ z ≡ z +ℤ pos 1
suc_is (pos n) = omega (arith, ints)
suc_is (negsuc zero) = omega (arith, ints)
suc_is (negsuc (suc n)) = omega (arith, ints)

one_less : (q d : ℤ) → (q -ℤ pos 1) *ℤ d +ℤ d ≡ q *ℤ d
one_less q d =
    let back : suc_ℤ (q -ℤ pos 1) ≡ q = omega (arith, ints, suc_is (q -ℤ pos 1)) in
    sym (suc_ℤ-*ℤ (q -ℤ pos 1) d) ∙ ap (λ z. z *ℤ d) back

-- one less, and the divisor more, where the remainder is negative
pub floored_from_truncated : (x d q r : ℤ) → pos 0 <ℤ d → IsTruncated x d q r →
    IsFloored x d (if int_lt r (pos 0) then q -ℤ pos 1 else q)
    (if int_lt r (pos 0) then r +ℤ d else r)
floored_from_truncated x d q r up t = by_sign (int_lt r (pos 0)) refl
  where
    by_sign : (b : Bool) → int_lt r (pos 0) ≡ b → IsFloored x d (if b then q -ℤ pos 1 else q)
        (if b then r +ℤ d else r)
    by_sign true negative =
        let whole : q *ℤ d +ℤ r ≡ x = t.whole in
        let small : unsigned_abs r < unsigned_abs d = t.small in
        let less : (q -ℤ pos 1) *ℤ d +ℤ d ≡ q *ℤ d = one_less q d in
        record {
          whole = omega (arith, ints);
          low = grind (arith, ints);
          high =
              grind (arith, ints);
        }
    by_sign false negative =
        let small : unsigned_abs r < unsigned_abs d = t.small in
        record { whole = t.whole; low = grind (arith, ints); high = grind (arith, ints) }

pub floored : (x d : ℤ) → pos 0 <ℤ d → IsFloored x d (floored_quotient x d) (floored_remainder x d)
floored x d up = floored_from_truncated x d (int_div x d) (int_rem x d) up
    (truncated x d (above x d up))
  where
    above : (x d : ℤ) → pos 0 <ℤ d → 0 < unsigned_abs d
    above x d up = grind (arith, ints)
