-- Two places of one number are one place.
use Rattle.std.proofs.Common.{◌≡◌, ◌⊎◌, true, false, Option, Some, None, refl, sym, ap, ◌∙◌, inl}
use Rattle.std.proofs.Common.{inr, unwrap_or, true≢false}
use Rattle.std.proofs.lemmas.Bool.{eqb-true, eq-eqb, cases_Bool}
use Rattle.pra_base.specs.declared.ids.Place.{Place}
use Rattle.pra_base.specs.Places.{number, numbered}
use Rattle.pra_base.proofs.PlaceNumbers.{numbered-number}
use Rattle.net_form.specs.Flow.{same_place, same_start}

pub number-injective : (p q : Place) → number p ≡ number q → p ≡ q
number-injective p q h =
    ap (λ o. unwrap_or o p) (sym (numbered-number p) ∙ ap numbered h ∙ numbered-number q)

pub same_place-true : (p q : Place) → same_place p q ≡ true → p ≡ q
same_place-true p q h = number-injective p q (eqb-true (number p) (number q) h)

pub same_place-refl : (p : Place) → same_place p p ≡ true
same_place-refl p = eq-eqb (number p) (number p) refl

pub place_cases : (p q : Place) → (p ≡ q) ⊎ (same_place p q ≡ false)
place_cases p q = elim (cases_Bool (same_place p q)) [
  | inl is ↦ inl (same_place-true p q is)
  | inr is ↦ inr is
]

pub same_start-true : (p q : Option Place) → same_start p q ≡ true → p ≡ q
same_start-true None None h = refl
same_start-true None (Some q) h = absurd (true≢false (sym h))
same_start-true (Some p) None h = absurd (true≢false (sym h))
same_start-true (Some p) (Some q) h = ap Some (same_place-true p q h)

pub same_start-refl : (p : Option Place) → same_start p p ≡ true
same_start-refl None = refl
same_start-refl (Some p) = same_place-refl p
