-- A loop that fills a list place by place.
use Rattle.std.proofs.Common.{ℕ, ◌≡◌, ◌<◌, ◌+◌, Bool, true, false, cond, ℤ, List, length, get_or}
use Rattle.std.proofs.Common.{set}
use Rattle.std.proofs.Common.{get_or-set_same, get_or-set_other, Some, None, sym, subst, refl, ◌∙◌}
use Rattle.std.proofs.Common.{pos, [], ◌∷◌}
use Rattle.std.proofs.Common.{arith, inl, inr}
use Rattle.std.specs.Option.{MatchOption}
use Rattle.std.proofs.lemmas.Bool.{cases_eq}
use Rattle.pra_base.specs.declared.ids.Place.{Place}
use Rattle.pra_base.specs.declared.ids.Place.TheVariants.{Eax, Ecx, Edx, Ebx, Esi, Edi, Mem, Const}
use Rattle.pra_base.specs.declared.ids.Place.TheVariants.{EaxM, EcxM, EdxM, EbxM, EsiM, EdiM}
use Rattle.pra_base.specs.Places.{number}
use Rattle.pra_base.proofs.PlaceNumbers.{place_of}
use Rattle.net_form.proofs.PlaceEquality.{number-injective}

module _ {A : Type 0} (P : Place → A → Type 0) (xs : List A) (d : A) (k : ℕ) (q : Place)
    (is : number q ≡ k) (old : (p : Place) → number p < k → P p (get_or xs (number p) d)) where
  pub filled : (x : A) → k < length xs → P q x → (p : Place) → number p < k + 1
      → P p (get_or (set xs k x) (number p) d)
  filled x lx here p lt = elim (cases_eq (number p) k)
      as (λ _. P p (get_or (set xs k x) (number p) d)) [
        | inl same ↦ subst (λ (n : ℕ). P p (get_or (set xs k x) n d)) (sym same)
            (subst (P p) (sym (get_or-set_same xs k x d lx))
            (subst (λ (r : Place). P r x) (number-injective q p (is ∙ sym same)) here))
        | inr other ↦ subst (P p) (sym (get_or-set_other xs k (number p) x d other))
            (old p (omega (arith, lt, other)))
      ]

-- a number where the place is open
pub slot_of : (W : ℤ → Type 0) (opened suits : Bool) (z : ℤ) → opened ≡ suits
    → (opened ≡ true → W z)
    → MatchOption (cond opened (Some z) None) (suits ≡ false) (λ z. (suits ≡ true) × W z)
slot_of W true suits z same weight = (sym same, weight refl)
slot_of W false suits z same weight = sym same

-- fourteen zeros
abbrev pub zeros : List ℤ
zeros =
    pos 0 ∷ pos 0 ∷ pos 0 ∷ pos 0 ∷ pos 0 ∷ pos 0 ∷ pos 0 ∷ pos 0 ∷ pos 0 ∷ pos 0 ∷ pos 0 ∷ pos 0
    ∷ pos 0 ∷ pos 0 ∷ []

pub zero_at : (q : Place) → get_or zeros (number q) (pos 0) ≡ pos 0
zero_at Eax = refl
zero_at Ecx = refl
zero_at Edx = refl
zero_at Ebx = refl
zero_at Esi = refl
zero_at Edi = refl
zero_at Mem = refl
zero_at Const = refl
zero_at EaxM = refl
zero_at EcxM = refl
zero_at EdxM = refl
zero_at EbxM = refl
zero_at EsiM = refl
zero_at EdiM = refl

pub zero_below : (k : ℕ) → k < 14 → get_or zeros k (pos 0) ≡ pos 0
zero_below k lt = let found = place_of k lt in
    subst (λ (n : ℕ). get_or zeros n (pos 0) ≡ pos 0) found.is (zero_at found.place)
