-- Comparisons and results that fit, in the words of signed numbers.
use Rattle.std.proofs.Common.{◌≡◌, ℕ, ◌^◌, ◌<◌, Bool, true, false, Some, refl, sym, ap, ◌∙◌, subst}
use Rattle.std.proofs.Common.{arith, nat_lt, nat_le}
use Rattle.std.specs.Prelude.{ℤ, pos, negsuc, not, ◌||◌, ◌&&◌, ◌==◌, ◌↔◌, ◌+ℤ◌, ◌-ℤ◌, ◌*ℤ◌, int_lt}
use Rattle.std.specs.Prelude.{int_le}
use Rattle.std.specs.Int.{w32, int_wrap}
use Rattle.std.specs.Int.RustNames.{FitsSigned}
use Rattle.std.proofs.lemmas.Bool.Decides.{nat_tests}
use Rattle.std.proofs.lemmas.Int.{ints, int_wrap_fits, SFits-int_wrap, wrapping_add-bits}
use Rattle.std.proofs.lemmas.Int.{wrapping_sub-bits}
use Rattle.std.proofs.lemmas.Int.{wrapping_mul-bits}
use Rattle.pra_base.specs.declared.ids.Cond.{Cond}
use Rattle.pra_base.specs.declared.ids.Cond.TheVariants.{B, Ae, E, Ne, Be, A, S, Ns, L, Ge, Le, G}
use Rattle.pra_base.specs.Words.{signed, sign, fits_word, sum32, diff32, product32, compares}
use Rattle.ia_step.specs.Arithmetic.{sum_flags, diff_flags, product_flags, differ, holds}

-- the test of a fit is the fit
pub fits_is : (z : ℤ) → fits_word z ≡ true → FitsSigned w32 z
fits_is (pos n) h = let low : n < 2 ^ 31 = grind (arith, nat_tests) in record { sfits = low }
fits_is (negsuc n) h = let low : n < 2 ^ 31 = grind (arith, nat_tests) in record { sfits = low }

pub is_fits : (z : ℤ) → FitsSigned w32 z → fits_word z ≡ true
is_fits (pos n) f = let h : n < 2 ^ 31 = f.sfits in grind (arith, nat_tests)
is_fits (negsuc n) f = let h : n < 2 ^ 31 = f.sfits in grind (arith, nat_tests)

not_false : (b : Bool) → b ≡ true → Some (not b) ≡ Some false
not_false b h = ap (λ b. Some (not b)) h

false_not : (b : Bool) → Some (not b) ≡ Some false → b ≡ true
false_not true h = refl
false_not false h = cc

-- a result r of z, in 32 bits, is z exactly where z fits
right : (z : ℤ) (r : ℕ) → signed r ≡ int_wrap w32 z → (Some (not (fits_word z)) ≡ Some false) ↔
    (signed r ≡ z)
right z r e = (
  λ clear. e ∙ int_wrap_fits w32 z (fits_is z (false_not (fits_word z) clear)),
  λ same. not_false (fits_word z)
      (is_fits z (subst (λ z. FitsSigned w32 z) (sym e ∙ same) (SFits-int_wrap w32 z))),
)

module _ (a b : ℕ) (fa : a < 2 ^ 32) (fb : b < 2 ^ 32) where
  pub sum_right : ((sum_flags a b).«of» ≡ Some false) ↔ (signed (sum32 a b) ≡ signed a +ℤ signed b)
  unfolding sum_flags
  sum_right = right (signed a +ℤ signed b) (sum32 a b) (wrapping_add-bits w32 a b fa fb)

  pub difference_right : ((diff_flags a b).«of» ≡ Some false) ↔
      (signed (diff32 a b) ≡ signed a -ℤ signed b)
  unfolding diff_flags
  difference_right = right (signed a -ℤ signed b) (diff32 a b) (wrapping_sub-bits w32 a b fa fb)

  pub product_right : ((product_flags a b).«of» ≡ Some false) ↔
      (signed (product32 a b) ≡ signed a *ℤ signed b)
  unfolding product_flags
  product_right = right (signed a *ℤ signed b) (product32 a b) (wrapping_mul-bits w32 a b fa fb)

  -- the overflow of a difference is seen from the signs
  overflow : not (fits_word (signed a -ℤ signed b)) ≡ differ (sign a) (sign b) && differ (sign a)
      (sign (diff32 a b))
  overflow = grind (arith, nat_tests, ints)

  less : differ (sign (diff32 a b))
      (differ (sign a) (sign b) && differ (sign a) (sign (diff32 a b))) ≡ int_lt (signed a)
      (signed b)
  less = grind (arith, nat_tests)

  equal : (diff32 a b == 0) ≡ (a == b)
  equal = grind (arith, nat_tests)

  less_known : differ (sign (diff32 a b)) (not (fits_word (signed a -ℤ signed b))) ≡
      int_lt (signed a) (signed b)
  less_known = ap (differ (sign (diff32 a b))) overflow ∙ less

  not_less : not (int_lt (signed a) (signed b)) ≡ int_le (signed b) (signed a)
  not_less = grind (arith, nat_tests)

  at_most : (a == b) || int_lt (signed a) (signed b) ≡ int_le (signed a) (signed b)
  at_most = grind (arith, nat_tests)

  not_at_most : not (int_le (signed a) (signed b)) ≡ int_lt (signed b) (signed a)
  not_at_most = grind (arith, nat_tests)

  below_or_equal : nat_lt a b || (a == b) ≡ nat_le a b
  below_or_equal = grind (arith, nat_tests)

  not_below : not (nat_lt a b) ≡ nat_le b a
  not_below = grind (arith, nat_tests)

  not_below_or_equal : not (nat_le a b) ≡ nat_lt b a
  not_below_or_equal = grind (arith, nat_tests)

  be : nat_lt a b || (diff32 a b == 0) ≡ nat_le a b
  be = ap (λ e. nat_lt a b || e) equal ∙ below_or_equal

  le : (diff32 a b == 0) || differ (sign (diff32 a b)) (not (fits_word (signed a -ℤ signed b))) ≡
      int_le (signed a) (signed b)
  le = rw (equal, less_known) at_most

  pub holds-diff_flags : (c : Cond) → holds (diff_flags a b) c ≡ Some (compares c a b)
  unfolding diff_flags
  holds-diff_flags B = refl
  holds-diff_flags Ae = ap Some not_below
  holds-diff_flags E = ap Some equal
  holds-diff_flags Ne = ap (λ e. Some (not e)) equal
  holds-diff_flags Be = ap Some be
  holds-diff_flags A = ap (λ e. Some (not e)) be ∙ ap Some not_below_or_equal
  holds-diff_flags S = refl
  holds-diff_flags Ns = refl
  holds-diff_flags L = ap Some less_known
  holds-diff_flags Ge = ap (λ e. Some (not e)) less_known ∙ ap Some not_less
  holds-diff_flags Le = ap Some le
  holds-diff_flags G = ap (λ e. Some (not e)) le ∙ ap Some not_at_most
