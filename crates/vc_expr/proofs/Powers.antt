-- The low bits of a word are the remainder by a power of two, rounded down, and the others, shifted
-- down with the sign, are the quotient.
use Rattle.std.proofs.Common.{◌≡◌, ℕ, zero, suc, ◌+◌, ◌-◌, ◌*◌, ◌/◌, ◌%◌, ◌^◌, ◌<◌, ◌≤◌, false}
use Rattle.std.proofs.Common.{⊎_elim, refl, sym}
use Rattle.std.proofs.Common.{ap, ◌∙◌, arith}
use Rattle.std.specs.Prelude.{ℤ, pos, negsuc, ◌+ℤ◌, ◌-ℤ◌, neg_ℤ, int_lt, bit_and, if◌then◌else◌}
use Rattle.std.specs.Int.{w32, int_shr, trailing_zeros, bit_at}
use Rattle.std.specs.Int.Signed.{shr_z}
use Rattle.std.specs.Int.RustNames.{FitsSigned}
use Rattle.std.proofs.Math.Nat.{mul-le-mul_right, mod-lt}
use Rattle.std.proofs.Math.Nat.{div-add-mod'}
use Rattle.std.proofs.Math.Pow.{pow_mono}
use Rattle.std.proofs.lemmas.Bool.{cases_lt}
use Rattle.std.proofs.lemmas.Bool.Decides.{nat_tests}
use Rattle.std.proofs.lemmas.Int.{ints, to_z-of_z}
use Rattle.std.proofs.lemmas.Nat.{and_mask, pow_pos, pow_below, pow-add, mod-mul-add, div-mul-add}
use Rattle.std.proofs.lemmas.Nat.Bits.{bit_at-trailing_zeros, bit_at-pow_other}
use Rattle.pra_base.specs.declared.ids.ShiftOp.TheVariants.{Shl, Sar}
use Rattle.pra_base.proofs.Shifts.{shift_fits}
use Rattle.pra_base.specs.Words.{word, signed, shifted, product32, floored_quotient, floored_remainder}

-- ---- words of numbers below 0

module _ (d c s : ℕ) (some : 0 < d) (whole : c * d ≡ 2 ^ 32) (most : s ≤ 2 ^ 31) where
  split : s / d * d + s % d ≡ s
  split = div-add-mod' s d

  small : s % d < d
  small = mod-lt s some

  under : s / d < c
  under = ⊎_elim
      (λ (lt : s / d < c). lt)
      (λ (le : c ≤ s / d). absurd (omega (arith, mul-le-mul_right d le, split, whole, most)))
      (cases_lt (s / d) c)

  module _ (none : s % d ≡ 0) where
    evenly : 2 ^ 32 - s ≡ (c - s / d) * d + 0
    evenly =
        let sum : c ≡ s / d + (c - s / d) = omega (arith, under) in
        let times : c * d ≡ (s / d + (c - s / d)) * d = ap (λ x. x * d) sum in
        omega (arith, times, split, none, whole)

    none_left : (2 ^ 32 - s) % d ≡ 0
    none_left = ap (λ n. n % d) evenly ∙ mod-mul-add (c - s / d) d 0 some

  module _ (over : 0 < s % d) where
    unevenly : 2 ^ 32 - s ≡ (c - suc (s / d)) * d + (d - s % d)
    unevenly =
        let sum : c ≡ suc (s / d) + (c - suc (s / d)) = omega (arith, under) in
        let times : c * d ≡ (suc (s / d) + (c - suc (s / d))) * d = ap (λ x. x * d) sum in
        omega (arith, times, split, small, whole)

    some_left : (2 ^ 32 - s) % d ≡ d - s % d
    some_left = ap (λ n. n % d) unevenly
        ∙ mod-mul-add (c - suc (s / d)) d (d - s % d) (omega (arith, over, small))

-- ---- what is rounded down

not_below : (r : ℕ) → int_lt (pos r) (pos 0) ≡ false
not_below r = grind (arith, nat_tests)

as_it_is : (r : ℕ) (a b : ℤ) → b ≡ (if int_lt (pos r) (pos 0) then a else b)
as_it_is r a b = ap (λ t. if t then a else b) (sym (not_below r))

remainder_at : (r d v : ℕ) → r < d → (r ≡ 0 → v ≡ 0) → (0 < r → v ≡ d - r) →
    pos v ≡ (if int_lt (neg_ℤ (pos r)) (pos 0) then neg_ℤ (pos r) +ℤ pos d else neg_ℤ (pos r))
remainder_at zero d v lt none over = ap pos (none refl)
remainder_at (suc r) d v lt none over = omega (arith, ints, lt, over (omega arith))

quotient_at : (r q : ℕ) (z : ℤ) → (r ≡ 0 → z ≡ neg_ℤ (pos q)) → (0 < r → z ≡ negsuc q) →
    z ≡ (if int_lt (neg_ℤ (pos r)) (pos 0) then neg_ℤ (pos q) -ℤ pos 1 else neg_ℤ (pos q))
quotient_at zero q z none over = none refl
quotient_at (suc r) q z none over = over (omega arith) ∙ omega (arith, ints)

word_below : (m : ℕ) → m < 2 ^ 31 → word (negsuc m) ≡ 2 ^ 32 - suc m
word_below m lt = omega (arith, ints, lt)

pub signed_low : (n : ℕ) → n < 2 ^ 31 → signed n ≡ pos n
signed_low n lt = omega (arith, ints, lt)

module _ (k : ℕ) (exponent : k < 31) where
  abbrev d : ℕ
  d = 2 ^ k

  some_power : 0 < d
  some_power = pow_pos k

  most_power : d ≤ 2 ^ 30
  most_power = pow_mono {i = k} {j = 30} (omega (arith, exponent))

  whole_word : 2 ^ (32 - k) * d ≡ 2 ^ 32
  whole_word = let sum : 32 - k + k ≡ 32 = omega (arith, exponent) in
      sym (pow-add 2 (32 - k) k) ∙ ap (λ n. 2 ^ n) sum

  low_mask : word (pos d -ℤ pos 1) ≡ d - 1
  low_mask = omega (arith, ints, some_power, most_power)

  low_of : (n : ℕ) → bit_and n (word (pos d -ℤ pos 1)) ≡ n % d
  low_of n = ap (bit_and n) low_mask ∙ and_mask n k

  low_small : (n : ℕ) → n % d < 2 ^ 31
  low_small n = let lt : n % d < d = mod-lt n some_power in omega (arith, lt, most_power)

  pub low_bits : (x : ℤ) → FitsSigned w32 x →
      signed (bit_and (word x) (word (pos d -ℤ pos 1))) ≡ floored_remainder x (pos d)
  low_bits (pos n) fits =
      let word_is : word (pos n) ≡ n = omega (arith, ints, fits) in
      ap signed (low_of (word (pos n)) ∙ ap (λ z. z % d) word_is) ∙ signed_low (n % d) (low_small n)
      ∙ as_it_is (n % d) (pos (n % d) +ℤ pos d) (pos (n % d))
  low_bits (negsuc m) fits =
      let lt : m < 2 ^ 31 = omega (arith, ints, fits) in
      ap signed (low_of (word (negsuc m)) ∙ ap (λ z. z % d) (word_below m lt))
      ∙ signed_low ((2 ^ 32 - suc m) % d) (low_small (2 ^ 32 - suc m))
      ∙ remainder_at (suc m % d) d ((2 ^ 32 - suc m) % d) (mod-lt (suc m) some_power)
      (none_left d (2 ^ (32 - k)) (suc m) some_power whole_word (omega (arith, lt)))
      (some_left d (2 ^ (32 - k)) (suc m) some_power whole_word (omega (arith, lt)))

-- ---- a shift with the sign

module _ (d m : ℕ) (some : 0 < d) where
  parts : suc m / d * d + suc m % d ≡ suc m
  parts = div-add-mod' (suc m) d

  rest : suc m % d < d
  rest = mod-lt (suc m) some

  inside : 0 < suc m % d → m / d ≡ suc m / d
  inside over =
      let is : m ≡ suc m / d * d + (suc m % d - 1) = omega (arith, parts, over) in
      ap (λ n. n / d) is ∙ div-mul-add (suc m / d) d (suc m % d - 1) (omega (arith, rest, over))

  before : (q : ℕ) → q * d ≡ suc m → suc (m / d) ≡ q
  before zero e = absurd (omega (arith, e))
  before (suc q) e =
      let is : m ≡ q * d + (d - 1) = omega (arith, e, some) in
      ap suc (ap (λ n. n / d) is ∙ div-mul-add q d (d - 1) (omega (arith, some)))

shifted_down : (x : ℤ) (d : ℕ) → 0 < d → shr_z x d ≡ floored_quotient x (pos d)
shifted_down (pos n) d some = as_it_is (n % d) (pos (n / d) -ℤ pos 1) (pos (n / d))
shifted_down (negsuc m) d some =
    quotient_at (suc m % d) (suc m / d) (negsuc (m / d))
    (λ none. ap (λ n. neg_ℤ (pos n))
    (before d m some (suc m / d) (omega (arith, parts d m some, none))))
    (λ over. ap negsuc (inside d m some over))

-- SAR by less than 32 bits is DIV by the power of two
pub high_bits : (k : ℕ) → k < 32 → (x : ℤ) → FitsSigned w32 x →
    signed (shifted Sar (word x) k) ≡ floored_quotient x (pos (2 ^ k))
high_bits k lt x fits =
    let low : k % 32 ≡ k = omega (arith, lt) in
    ap (λ z. signed (word (int_shr z (k % 32)))) (to_z-of_z w32 x fits)
    ∙ ap (λ j. signed (word (int_shr x j))) low
    ∙ to_z-of_z w32 (int_shr x k) (shift_fits x k fits) ∙ shifted_down x (2 ^ k) (pow_pos k)

-- SHL by less than 32 bits is a product with the power of two
pub shifted_up : (k : ℕ) → k < 32 → (a : ℕ) → shifted Shl a k ≡ product32 a (2 ^ k)
shifted_up k lt a = ap (λ j. a * 2 ^ j % 2 ^ 32) (omega (arith, lt))

-- the number of zeros below the only bit of a power of two
pub trailing_power : (k : ℕ) → k < 32 → trailing_zeros w32 (2 ^ k) ≡ k
trailing_power k lt =
    let t = trailing_zeros w32 (2 ^ k) in
    let one : bit_at (2 ^ k) t ≡ 1 =
    (bit_at-trailing_zeros w32 (2 ^ k) (pow_pos k) (pow_below k 32 lt)).1 in
    let other : (t ≡ k → ⊥) → ⊥ = λ differs.
    omega (arith, one, bit_at-pow_other k t differs) in
    ⊎_elim
    (λ (less : t < k). absurd (other (λ e. omega (arith, e, less))))
    (λ (no_less : k ≤ t). ⊎_elim
    (λ (more : k < t). absurd (other (λ e. omega (arith, e, more))))
    (λ (no_more : t ≤ k). omega (arith, no_less, no_more)) (cases_lt k t))
    (cases_lt t k)
