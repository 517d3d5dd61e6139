-- What numbers of places are: registers alone, memory, the constant itself, both places.
use Rattle.std.proofs.Common.{ℕ, ◌≡◌, ◌<◌, ◌+◌, true, false, arith, inl, inr, subst, sym, ◌-◌}
use Rattle.std.proofs.lemmas.Bool.{cases_lt, cases_eq}
use Rattle.std.proofs.lemmas.Bool.Decides.{nat_tests}
use Rattle.pra_base.specs.Places.{has_register, register_of, needs_slot}

pub alone_has : (r : ℕ) → r < 6 → has_register r ≡ true
alone_has r lt = grind (arith, nat_tests)

pub alone_slot : (r : ℕ) → r < 6 → needs_slot r ≡ false
alone_slot r lt = grind (arith, nat_tests)

pub alone_register : (r : ℕ) → r < 6 → register_of r ≡ r
alone_register r lt = grind (arith, nat_tests)

pub both_has : (r : ℕ) → has_register (8 + r) ≡ true
both_has r = grind (arith, nat_tests)

pub both_slot : (r : ℕ) → needs_slot (8 + r) ≡ true
both_slot r = grind (arith, nat_tests)

pub both_register : (r : ℕ) → register_of (8 + r) ≡ r
both_register r = grind (arith, nat_tests)

-- a place is one of four
pub data Class : ℕ → Type 0 where
  alone : (r : ℕ) → r < 6 → Class r
  memory : Class 6
  constant : Class 7
  both : (r : ℕ) → r < 6 → Class (8 + r)

pub class_of : (p : ℕ) → p < 14 → Class p
class_of p lt = elim (cases_lt p 6) as (λ _. Class p) [
  | inl low ↦ alone p low
  | inr high ↦ elim (cases_eq p 6) as (λ _. Class p) [
    | inl is ↦ subst (λ (q : ℕ). Class q) (sym is) memory
    | inr other ↦ elim (cases_eq p 7) as (λ _. Class p) [
      | inl is ↦ subst (λ (q : ℕ). Class q) (sym is) constant
      | inr more ↦ subst (λ (q : ℕ). Class q) (omega arith) (both (p - 8) (omega arith))
    ]
  ]
]
