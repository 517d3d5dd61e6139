-- Places in masks.
use Rattle.std.proofs.Common.{ℕ, ◌≡◌, ◌<◌, min, true, ◌&&◌, cond, eqb, List, [], ◌∷◌, sym, ap, ◌∙◌}
use Rattle.std.proofs.Common.{arith, inl, inr}
use Rattle.std.specs.List.{fold}
use Rattle.std.specs.Int.{bit_at}
use Rattle.std.proofs.lemmas.Bool.{cases_eq, cases_Bool, eq-eqb, ne_eqb, and_parts, and_from}
use Rattle.std.proofs.lemmas.Nat.Bits.{bit_at_and, bit_at-lt, bit_at_ones}
use Rattle.std.proofs.lemmas.List.Elements.{All-head, All-tail, All-nil, All-cons}
use Rattle.std.specs.Prelude.{All}
use Rattle.pra_base.specs.Places.{allows, meet, without}
use Rattle.pra_base.specs.Operands.{Role, is_role_of, meets}

min_one : (x y : ℕ) → x < 2 → y < 2 → eqb (min x y) 1 ≡ (eqb x 1 && eqb y 1)
min_one x y a b = elim (cases_eq x 1) as (λ _. eqb (min x y) 1 ≡ (eqb x 1 && eqb y 1)) [
  | inl one ↦ ap (λ k. eqb k 1) (let e : min x y ≡ y = omega (arith, one, b) in e)
      ∙ sym (ap (λ t. t && eqb y 1) (eq-eqb x 1 one))
  | inr other ↦ ap (λ k. eqb k 1) (let e : min x y ≡ 0 = omega (arith, other, a) in e)
      ∙ sym (ap (λ t. t && eqb y 1) (ne_eqb x 1 other))
]

pub allows_meet : (a b p : ℕ) → allows (meet a b) p ≡ (allows a p && allows b p)
allows_meet a b p = ap (λ k. eqb k 1) (bit_at_and a b p) ∙ min_one (bit_at a p) (bit_at b p)
    (bit_at-lt a p) (bit_at-lt b p)

pub both_allow : (a b p : ℕ) → allows a p ≡ true → allows b p ≡ true → allows (meet a b) p ≡ true
both_allow a b p x y = allows_meet a b p ∙ and_from (allows a p) (allows b p) x y

pub met_allows : (a b p : ℕ) → allows (meet a b) p ≡ true → (allows a p ≡ true) ×
    (allows b p ≡ true)
met_allows a b p h = and_parts (allows a p) (allows b p) (sym (allows_meet a b p) ∙ h)

-- ---- a mask met with those of a variable's roles

pub meets_allows : (v mask p : ℕ) (r : Role) → allows mask p ≡ true →
    (is_role_of v r ≡ true → allows r.mask p ≡ true) → allows (meets v mask r) p ≡ true
meets_allows v mask p r a b =
    elim (cases_Bool (is_role_of v r)) as (λ _. allows (meets v mask r) p ≡ true) [
      | inl is ↦ ap (λ t. allows (cond t (meet mask r.mask) mask) p) is ∙ both_allow mask r.mask p a
          (b is)
      | inr no_ ↦ ap (λ t. allows (cond t (meet mask r.mask) mask) p) no_ ∙ a
    ]

-- what all of the variable's roles have
pub fold_allows : (v mask p : ℕ) (rs : List Role) → allows mask p ≡ true →
    All (λ r. is_role_of v r ≡ true → allows r.mask p ≡ true) rs →
    allows (fold (meets v) mask rs) p ≡ true
fold_allows v mask p [] a all = a
fold_allows v mask p (r ∷ rs) a all = fold_allows v (meets v mask r) p rs
    (meets_allows v mask p r a
    (All-head (λ r. is_role_of v r ≡ true → allows r.mask p ≡ true) r rs all))
    (All-tail (λ r. is_role_of v r ≡ true → allows r.mask p ≡ true) r rs all)

-- what is left was there
pub fold_allowed : (v mask p : ℕ) (rs : List Role) → allows (fold (meets v) mask rs) p ≡ true →
    allows mask p ≡ true
fold_allowed v mask p [] h = h
fold_allowed v mask p (r ∷ rs) h =
    let more = fold_allowed v (meets v mask r) p rs h in
    elim (cases_Bool (is_role_of v r)) as (λ _. allows mask p ≡ true) [
      | inl is ↦ (met_allows mask r.mask p
          (sym (ap (λ t. allows (cond t (meet mask r.mask) mask) p) is) ∙ more)).0
      | inr no_ ↦ sym (ap (λ t. allows (cond t (meet mask r.mask) mask) p) no_) ∙ more
    ]

-- and each of the variable's roles has it
pub fold_role : (v mask p : ℕ) (rs : List Role) → allows (fold (meets v) mask rs) p ≡ true →
    All (λ r. is_role_of v r ≡ true → allows r.mask p ≡ true) rs
fold_role v mask p [] h = All-nil _
fold_role v mask p (r ∷ rs) h = All-cons (λ r. is_role_of v r ≡ true → allows r.mask p ≡ true) r rs
    (λ is. (met_allows mask r.mask p (sym (ap (λ t. allows (cond t (meet mask r.mask) mask) p) is)
    ∙ fold_allowed v (meets v mask r) p rs h)).1)
    (fold_role v (meets v mask r) p rs h)

-- ---- a mask without the registers that are destroyed

pub left_was : (mask clobbers p : ℕ) → allows (without mask clobbers) p ≡ true → allows mask p ≡
    true
left_was mask clobbers p h = (met_allows mask _ p h).0

pub nothing_lost : (mask p : ℕ) → p < 14 → allows mask p ≡ true → allows (without mask 0) p ≡ true
nothing_lost mask p lt h = both_allow mask _ p h (ap (λ k. eqb k 1) (bit_at_ones 14 p lt))
