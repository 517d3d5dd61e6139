-- Masks of places, bit by bit.
use Rattle.std.proofs.Common.{ℕ, zero, suc, ◌≡◌, ◌<◌, ◌+◌, ◌-◌, ◌*◌, ◌^◌, Bool, true, false, ◌&&◌}
use Rattle.std.proofs.Common.{◌||◌}
use Rattle.std.proofs.Common.{not, cond, eqb, refl, sym, ap, subst, ◌∙◌, inl, inr, arith}
use Rattle.std.specs.Int.{bit_at}
use Rattle.std.proofs.Math.Nat.{pow-suc}
use Rattle.std.proofs.lemmas.Bool.{cases_eq}
use Rattle.std.proofs.lemmas.Bool.Decides.{nat_tests}
use Rattle.std.proofs.lemmas.Nat.Bits.{bit_at_cat_low, bit_at_cat_high, bit_at-lt}
use Rattle.pra_base.specs.declared.ids.Place.{Place}
use Rattle.pra_base.specs.Places.{number, allows, mask_where, lies_in, only, without}
use Rattle.pra_base.specs.Places.{has_register, register_of}
use Rattle.pra_base.proofs.PlaceNumbers.{number_below}
use Rattle.net_form.specs.Flow.{same_place}
use Rattle.net_laws.proofs.Bits.{allows_meet}

-- the bits below n of those that pass a test
abbrev bits : (ℕ → Bool) → ℕ → ℕ
bits test zero = 0
bits test (suc n) = cond (test n) (2 ^ n) 0 + bits test n

bits_below : (test : ℕ → Bool) (n : ℕ) → bits test n < 2 ^ n
bits_below test zero = let none : bits test 0 ≡ 0 = refl in omega (arith, none)
bits_below test (suc n) = by (test n) (bits_below test n) where
  by : (b : Bool) → bits test n < 2 ^ n → cond b (2 ^ n) 0 + bits test n < 2 ^ suc n
  by true below = let p = pow-suc 2 n in omega (arith, p, below)
  by false below = let p = pow-suc 2 n in omega (arith, p, below)

bit_is : (test : ℕ → Bool) (n i : ℕ) → i < n → bit_at (bits test n) i ≡ cond (test i) 1 0
bit_is test zero i lt = absurd (omega (arith, lt))
bit_is test (suc n) i lt = elim (cases_eq i n)
    as (λ _. bit_at (cond (test n) (2 ^ n) 0 + bits test n) i ≡ cond (test i) 1 0) [
      | inl here ↦ subst (λ (k : ℕ). bit_at (cond (test n) (2 ^ n) 0 + bits test n) k
          ≡ cond (test k) 1 0) (sym here) (top (test n))
      | inr other ↦ let less : i < n = omega (arith, lt, other) in
          low (test n) less ∙ bit_is test n i less
    ]
  where
    scaled : (b : Bool) → cond b (2 ^ n) 0 ≡ cond b 1 0 * 2 ^ n
    scaled true = omega arith
    scaled false = omega arith

    digit : (b : Bool) → bit_at (cond b 1 0) 0 ≡ cond b 1 0
    digit true = refl
    digit false = refl

    top : (b : Bool) → bit_at (cond b (2 ^ n) 0 + bits test n) n ≡ cond b 1 0
    top b = let first : n - n ≡ 0 = omega arith in ap (λ (m : ℕ). bit_at (m + bits test n) n)
        (scaled b)
        ∙ bit_at_cat_high (cond b 1 0) n (bits test n) n (bits_below test n) (omega arith)
        ∙ ap (λ (k : ℕ). bit_at (cond b 1 0) k) first ∙ digit b

    low : (b : Bool) → i < n
        → bit_at (cond b (2 ^ n) 0 + bits test n) i ≡ bit_at (bits test n) i
    low b less = ap (λ (m : ℕ). bit_at (m + bits test n) i) (scaled b)
        ∙ bit_at_cat_low (cond b 1 0) n (bits test n) i less

mask_is : (test : ℕ → Bool) → mask_where test ≡ bits test 14
mask_is test =
    let all : bits test 14 ≡ cond (test 13) (2 ^ 13) 0
    + (cond (test 12) (2 ^ 12) 0
    + (cond (test 11) (2 ^ 11) 0
    + (cond (test 10) (2 ^ 10) 0
    + (cond (test 9) (2 ^ 9) 0
    + (cond (test 8) (2 ^ 8) 0
    + (cond (test 7) (2 ^ 7) 0
    + (cond (test 6) (2 ^ 6) 0
    + (cond (test 5) (2 ^ 5) 0
    + (cond (test 4) (2 ^ 4) 0
    + (cond (test 3) (2 ^ 3) 0
    + (cond (test 2) (2 ^ 2) 0
    + (cond (test 1) (2 ^ 1) 0
    + (cond (test 0) (2 ^ 0) 0 + 0))))))))))))) = refl in
    omega (arith, all)

is_one : (b : Bool) → eqb (cond b 1 0) 1 ≡ b
is_one true = refl
is_one false = refl

-- a mask of the places that pass a test has those
pub allows_where : (test : ℕ → Bool) (q : Place)
    → allows (mask_where test) (number q) ≡ test (number q)
allows_where test q =
    ap (λ (m : ℕ). allows m (number q)) (mask_is test)
    ∙ ap (λ (k : ℕ). eqb k 1) (bit_is test 14 (number q) (number_below q))
    ∙ is_one (test (number q))

pub allows_without : (mask registers : ℕ) (q : Place) → allows (without mask registers) (number q)
    ≡ (allows mask (number q) && not (lies_in registers (number q)))
allows_without mask registers q =
    allows_meet mask (mask_where (λ p. not (lies_in registers p))) (number q)
    ∙ ap (λ (b : Bool). allows mask (number q) && b)
    (allows_where (λ p. not (lies_in registers p)) q)

pub allows_only : (p q : Place) → allows (only p) (number q) ≡ same_place p q
allows_only p q = allows_where (λ k. eqb k (number p)) q ∙ turned (number q) (number p) where
  turned : (a b : ℕ) → eqb a b ≡ eqb b a
  turned a b = grind (arith, nat_tests)

-- a place whose register is not in use
pub free_is : (registers p : ℕ) → not (lies_in registers p)
    ≡ (not (has_register p) || eqb (bit_at registers (register_of p)) 0)
free_is registers p = by (has_register p) where
  by : (b : Bool) → not (b && eqb (bit_at registers (register_of p)) 1)
      ≡ (not b || eqb (bit_at registers (register_of p)) 0)
  by true = let lt = bit_at-lt registers (register_of p) in grind (arith, nat_tests)
  by false = refl

swapped : (a b d : Bool) → ((a && b) && d) ≡ ((a && d) && b)
swapped true true true = refl
swapped true true false = refl
swapped true false true = refl
swapped true false false = refl
swapped false b d = refl

-- in the mask and free, and where the ends want it
pub all_three : (m x y a n s i u f : Bool) → m ≡ (x && y) → x ≡ (a && n) → y ≡ s → i ≡ a → u ≡ s
    → f ≡ n → m ≡ ((i && u) && f)
all_three m x y a n s i u f hm hx hy hi hu hf =
    let e = swapped a n s in cc (hm, hx, hy, hi, hu, hf, e)

pub both : (a b c d : Bool) → a ≡ c → b ≡ d → (a && b) ≡ (c && d)
both a b c d e f = cc (e, f)
