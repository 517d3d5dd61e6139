-- The register that is picked.
use Rattle.std.proofs.Common.{ℕ, zero, suc, ◌≡◌, subst, ◌<◌, Bool, true, false, not, cond, eqb}
use Rattle.std.proofs.Common.{List, [], ◌∷◌, All, refl, sym, arith, inl, inr, ◌⊎◌, Some}
use Rattle.std.specs.Prelude.{unwrap_or, find}
use Rattle.std.specs.Int.{bit_at}
use Rattle.std.proofs.lemmas.Bool.{cases_Bool, and_parts, and_cases, both_ways, eqb-true, eqb-false}
use Rattle.std.proofs.lemmas.Bool.{not-true, not-false}
use Rattle.std.proofs.lemmas.List.Elements.{All-nil, All-cons, All-head, All-tail}
use Rattle.pra_base.specs.declared.ids.Place.{Place}
use Rattle.pra_base.specs.declared.ids.Place.TheVariants.{Eax, Ecx, Edx, Ebx, Esi, Edi}
use Rattle.pra_base.specs.Places.{number, allows, is_register}
use Rattle.al_edge.specs.Choice.{six, may_pick, pick}

record IsFound (f : Place → Bool) (P : Place → Type 0) (p : Place) : Type 0 where
  passes : f p ≡ true
  property : P p

found : (f : Place → Bool) (P : Place → Type 0) (xs : List Place) (d : Place) → All P xs →
    IsFound f P (unwrap_or (find f xs) d) ⊎ All (λ p. f p ≡ false) xs
found f P [] d all = inr (All-nil _)
found f P (x ∷ xs) d all =
    elim (cases_Bool (f x)) as (λ _. IsFound f P (unwrap_or (find f (x ∷ xs)) d) ⊎
    All (λ p. f p ≡ false) (x ∷ xs)) [
      | inl is ↦ inl (subst (λ t. IsFound f P (unwrap_or (cond t (Some x) (find f xs)) d)) (sym is)
          (record { passes = is; property = All-head P x xs all }))
      | inr no_ ↦ elim (found f P xs d (All-tail P x xs all))
          as (λ _. IsFound f P (unwrap_or (find f (x ∷ xs)) d) ⊎ All (λ p. f p ≡ false) (x ∷ xs)) [
            | inl later ↦ inl (subst (λ t. IsFound f P (unwrap_or (cond t (Some x) (find f xs)) d))
                (sym no_) later)
            | inr none ↦ inr (All-cons (λ p. f p ≡ false) x xs no_ none)
          ]
    ]

pub record IsPicked (mask busy : ℕ) (p : Place) : Type 0 where
  pub register : is_register (number p) ≡ true
  pub allowed : allows mask (number p) ≡ true
  pub free : bit_at busy (number p) ≡ 1 → ⊥

abbrev IsFull : ℕ → ℕ → Place → Type 0
IsFull mask busy p = allows mask (number p) ≡ true → bit_at busy (number p) ≡ 1

closed : (mask busy : ℕ) (p : Place) → may_pick mask busy p ≡ false → IsFull mask busy p
closed mask busy p no_ has =
    elim (and_cases (allows mask (number p)) (not (eqb (bit_at busy (number p)) 1)) no_)
    as (λ _. bit_at busy (number p) ≡ 1) [
      | inl lacks ↦ absurd (both_ways (allows mask (number p)) lacks has)
      | inr full ↦ eqb-true (bit_at busy (number p)) 1
          (not-false (eqb (bit_at busy (number p)) 1) full)
    ]

-- a register is picked, or all of the mask are busy
pub picked : (mask busy : ℕ) → IsPicked mask busy (pick mask busy) ⊎
    ((r : ℕ) → r < 6 → allows mask r ≡ true → bit_at busy r ≡ 1)
picked mask busy = by (found (may_pick mask busy) (λ p. is_register (number p) ≡ true) six Eax
    registers)
  where
    P : Place → Type 0
    P p = is_register (number p) ≡ true

    registers : All (λ p. is_register (number p) ≡ true) six
    registers = All-cons (λ p. is_register (number p) ≡ true) Eax (Ecx ∷ Edx ∷ Ebx ∷ Esi ∷ Edi ∷ [])
        refl (All-cons (λ p. is_register (number p) ≡ true) Ecx (Edx ∷ Ebx ∷ Esi ∷ Edi ∷ []) refl
        (All-cons (λ p. is_register (number p) ≡ true) Edx (Ebx ∷ Esi ∷ Edi ∷ []) refl
        (All-cons (λ p. is_register (number p) ≡ true) Ebx (Esi ∷ Edi ∷ []) refl
        (All-cons (λ p. is_register (number p) ≡ true) Esi (Edi ∷ []) refl
        (All-cons (λ p. is_register (number p) ≡ true) Edi [] refl (All-nil _))))))

    full : All (λ p. may_pick mask busy p ≡ false) six → (r : ℕ) → r < 6 → allows mask r ≡ true →
        bit_at busy r ≡ 1
    full none zero lt = closed mask busy Eax (none 0 Eax (omega arith))
    full none (suc zero) lt = closed mask busy Ecx (none 1 Eax (omega arith))
    full none (suc (suc zero)) lt = closed mask busy Edx (none 2 Eax (omega arith))
    full none (suc (suc (suc zero))) lt = closed mask busy Ebx (none 3 Eax (omega arith))
    full none (suc (suc (suc (suc zero)))) lt = closed mask busy Esi (none 4 Eax (omega arith))
    full none (suc (suc (suc (suc (suc zero))))) lt =
        closed mask busy Edi (none 5 Eax (omega arith))
    full none (suc (suc (suc (suc (suc (suc r)))))) lt = absurd (omega (arith, lt))

    by : IsFound (may_pick mask busy) (λ p. is_register (number p) ≡ true) (pick mask busy) ⊎
        All (λ p. may_pick mask busy p ≡ false) six
        → IsPicked mask busy (pick mask busy) ⊎
        ((r : ℕ) → r < 6 → allows mask r ≡ true → bit_at busy r ≡ 1)
    by (inl f) = inl (record {
      register = f.property;
      allowed = (and_parts (allows mask (number (pick mask busy)))
          (not (eqb (bit_at busy (number (pick mask busy))) 1)) f.passes).0;
      free = eqb-false (bit_at busy (number (pick mask busy))) 1
          (not-true _ (and_parts (allows mask (number (pick mask busy)))
          (not (eqb (bit_at busy (number (pick mask busy))) 1)) f.passes).1);
    })
    by (inr none) = inr (full none)
