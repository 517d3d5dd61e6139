-- The two sides of an instruction, and what the mask of a variable is there.
use Rattle.std.proofs.Common.{ℕ, ◌≡◌, ◌+◌, ◌-◌, ◌*◌, ◌/◌, ◌%◌, ◌<◌, ◌≤◌, Bool, true, false, not}
use Rattle.std.proofs.Common.{◌&&◌, cond, eqb, List, All, sym, ap, ◌∙◌, arith, inl, inr, None}
use Rattle.std.specs.List.{list_any, fold}
use Rattle.std.proofs.lemmas.Bool.{cases_eq, eq-eqb, ne_eqb, and_right, both_ways}
use Rattle.std.proofs.lemmas.List.Folds.{list_any_at}
use Rattle.pra_base.specs.declared.code.VProc.{VProc}
use Rattle.pra_base.specs.Code.{kind_of, instr_at}
use Rattle.pra_base.specs.Operands.{Role, is_role_of, meets, operands, own_places}
use Rattle.pra_base.specs.Places.{allows, without}
use Rattle.net_form.specs.Tables.{all_tables}
use Rattle.net_form.specs.Strands.{Lives, is_before, across, beside, is_present, is_param}
use Rattle.net_form.specs.Strands.{roles_beside, clobbers_beside, mask_at}
use Rattle.net_laws.proofs.Bits.{fold_allows, fold_role, left_was}

-- before instruction k, or after it
abbrev pub side : ℕ → Bool → ℕ
side k before = cond before (2 * k + 1) (2 * k + 2)

pub side_before : (k : ℕ) (b : Bool) → is_before (side k b) ≡ b
side_before k true = eq-eqb ((2 * k + 1) % 2) 1 (omega arith)
side_before k false = ne_eqb ((2 * k + 2) % 2) 1 (λ e. omega (arith, e))

pub side_across : (k : ℕ) (b : Bool) → across (side k b) ≡ side k (not b)
side_across k true = ap (λ t. cond t (2 * k + 1 + 1) (2 * k + 1 - 1)) (side_before k true)
    ∙ (let e : 2 * k + 1 + 1 ≡ 2 * k + 2 = omega arith in e)
side_across k false = ap (λ t. cond t (2 * k + 2 + 1) (2 * k + 2 - 1)) (side_before k false)
    ∙ (let e : 2 * k + 2 - 1 ≡ 2 * k + 1 = omega arith in e)

pub side_some : (k : ℕ) (b : Bool) → 0 < side k b
side_some k true = omega arith
side_some k false = omega arith

pub side_index : (k : ℕ) (b : Bool) → (side k b - 1) / 2 ≡ k
side_index k true = omega arith
side_index k false = omega arith

pub side_point : (k : ℕ) → side k true / 2 ≡ k
side_point k = omega arith

pub side_near : (k : ℕ) (b c : Bool) → side k b ≤ side k c + 1
side_near k true true = omega arith
side_near k true false = omega arith
side_near k false true = omega arith
side_near k false false = omega arith

-- each layer but the entry is a side, of an instruction or of the block's end
pub record IsSide (l : ℕ) : Type 0 where
  pub index : ℕ
  pub before : Bool
  pub is : l ≡ side index before

pub side_of : (l : ℕ) → 0 < l → IsSide l
side_of l some = elim (cases_eq (l % 2) 1) as (λ _. IsSide l) [
  | inl odd ↦ record { index = (l - 1) / 2; before = true; is = omega (arith, some, odd) }
  | inr even ↦ record { index = (l - 1) / 2; before = false; is = omega (arith, some, even) }
]

pub same_index : (k j : ℕ) (b c : Bool) → side k b ≡ side j c → k ≡ j
same_index k j b c e = sym (side_index k b) ∙ ap (λ l. (l - 1) / 2) e ∙ side_index j c

pub beside_side : (code : VProc) (c k : ℕ) (b : Bool) → beside code c (side k b) ≡ instr_at code c k
beside_side code c k b =
    ap (λ t. cond t None (instr_at code c ((side k b - 1) / 2)))
    (ne_eqb (side k b) 0 (λ e. let s = side_some k b in omega (arith, s, e)))
    ∙ ap (instr_at code c) (side_index k b)

module _ (code : VProc) (live : Lives) (v c k : ℕ) where
  abbrev pub roles : Bool → List Role
  roles b = roles_beside b operands (instr_at code c k)

  abbrev pub lost : Bool → ℕ
  lost b = cond (is_present all_tables code live v c (side k (not b)))
      (clobbers_beside operands (instr_at code c k)) 0

  pub mask_side : (b : Bool) → mask_at all_tables code live v c (side k b) ≡
      without (fold (meets v) (own_places (kind_of code v)) (roles b)) (lost b)
  mask_side b =
      let l = side k b in
      let own = own_places (kind_of code v) in
      ap (λ t. cond t 64 (without
      (fold (meets v) own (roles_beside (is_before l) operands (beside code c l)))
      (cond (is_present all_tables code live v c (across l))
      (clobbers_beside operands (beside code c l)) 0)))
      (and_right (is_param (kind_of code v) && eqb c 0) (eqb l 0)
      (ne_eqb l 0 (λ e. let s = side_some k b in omega (arith, s, e))))
      ∙ ap (λ t. without (fold (meets v) own (roles_beside t operands (beside code c l)))
      (cond (is_present all_tables code live v c (across l))
      (clobbers_beside operands (beside code c l)) 0)) (side_before k b)
      ∙ ap (λ o. without (fold (meets v) own (roles_beside b operands o))
      (cond (is_present all_tables code live v c (across l)) (clobbers_beside operands o) 0))
      (beside_side code c k b)
      ∙ ap (λ n. without (fold (meets v) own (roles b))
      (cond (is_present all_tables code live v c n) (clobbers_beside operands (instr_at code c k))
      0)) (side_across k b)

  -- a place that the variable may be at, that all its roles there have, and that is not destroyed
  pub mask_has : (b : Bool) (p : ℕ) → allows (own_places (kind_of code v)) p ≡ true →
      All (λ r. is_role_of v r ≡ true → allows r.mask p ≡ true) (roles b)
      → ((m : ℕ) → allows m p ≡ true → allows (without m (lost b)) p ≡ true) →
      allows (mask_at all_tables code live v c (side k b)) p ≡ true
  mask_has b p own all kept = ap (λ m. allows m p) (mask_side b)
      ∙ kept _ (fold_allows v (own_places (kind_of code v)) p (roles b) own all)

  pub mask_was : (b : Bool) (p : ℕ) → allows (mask_at all_tables code live v c (side k b)) p ≡
      true → All (λ r. is_role_of v r ≡ true → allows r.mask p ≡ true) (roles b)
  mask_was b p h = fold_role v (own_places (kind_of code v)) p (roles b)
      (left_was _ (lost b) p (sym (ap (λ m. allows m p) (mask_side b)) ∙ h))

-- who has no role there is not held to any
pub no_role : (v p : ℕ) (rs : List Role) → list_any (is_role_of v) rs ≡ false →
    All (λ r. is_role_of v r ≡ true → allows r.mask p ≡ true) rs
no_role v p rs none = λ i d lt is.
    absurd (both_ways (list_any (is_role_of v) rs) none (list_any_at (is_role_of v) rs i d lt is))
