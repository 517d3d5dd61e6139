-- Numbers that may be there: the least of some, and bounds.
use Rattle.std.proofs.Common.{◌≡◌, ℕ, ◌+◌, ◌^◌, ◌<◌, ◌⊎◌, inl, inr, ℤ, pos, negsuc, ◌-ℤ◌, ◌≤ℤ◌}
use Rattle.std.proofs.Common.{Option, Some, sym, ◌∙◌, subst, arith, to_z, of_z}
use Rattle.std.specs.Int.{w128}
use Rattle.std.specs.Int.Signed.{mag}
use Rattle.std.proofs.lemmas.Int.{ints, to_z-of_z}
use Rattle.std.proofs.lemmas.Bool.{cases_eq}
use Rattle.pra_list.proofs.Options.{some_same}
use Rattle.net_dual.specs.Leasts.{IsLeastOf, IsCostWithin}
use Rattle.net_dual.specs.Small.{IsWithin}

-- ---- the least

at_most : (n k : ℕ) → k < n + 1 → (k < n) ⊎ (k ≡ n)
at_most n k lt = elim (cases_eq k n) as (λ _. (k < n) ⊎ (k ≡ n)) [
  | inl is ↦ inr is
  | inr other ↦ inl (omega (arith, lt, other))
]

pub lower_more : (f : ℕ → Option ℤ) (n : ℕ) (y z : ℤ) → IsLeastOf f n (Some y)
    → f n ≡ Some z → z ≤ℤ y → IsLeastOf f (n + 1) (Some z)
lower_more f n y z least at less = (
  (n, omega arith, at),
  λ k d lt is. elim (at_most n k lt) as (λ _. z ≤ℤ d) [
    | inl before ↦ let le = least.1 k d before is in omega (arith, ints, le, less)
    | inr same ↦
        let e : z ≡ d = some_same z d (sym at ∙ subst (λ k. f k ≡ Some d) same is) in
        omega (arith, ints, e)
  ],
)

-- ---- bounds

pub within_of : (n : ℕ) (o : Option ℤ) (z : ℤ) → o ≡ Some z → IsCostWithin n o → IsWithin n z
within_of n o z is within = subst (IsCostWithin n) is within

small_mag : (z : ℤ) (n : ℕ) → n < 2 ^ 126 → (pos 0 -ℤ pos n) ≤ℤ z → z ≤ℤ pos n → mag z < 2 ^ 127
small_mag (pos k) n few low high = omega (arith, ints, few, high)
small_mag (negsuc k) n few low high = omega (arith, ints, few, low)

-- a number that fits is what its bits say
pub same_bits : (n : ℕ) (z : ℤ) → n < 2 ^ 126 → IsWithin n z → to_z w128 (of_z w128 z) ≡ z
same_bits n z few within =
    to_z-of_z w128 z (record { sfits = small_mag z n few within.low within.high })
