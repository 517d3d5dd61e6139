-- A strand is kept from home by an operand of the instruction beside it alone.
use Rattle.std.proofs.Common.{ℕ, ◌≡◌, Bool, true, false, not, ◌&&◌, ◌||◌, cond, eqb, leb, refl, sym}
use Rattle.std.proofs.Common.{ap, ◌∙◌, subst, arith, inl, inr, ◌⊎◌, Option, Some, None}
use Rattle.std.specs.Prelude.{nat_lt}
use Rattle.std.specs.List.{list_any}
use Rattle.std.proofs.lemmas.Bool.{cases_Bool, cases_eq, and_parts, or_parts, leb-true, ltb-true}
use Rattle.std.proofs.lemmas.Bool.{both_ways}
use Rattle.pra_base.specs.declared.ids.Place.{Place}
use Rattle.pra_base.specs.declared.ids.Place.TheVariants.{Mem, Const}
use Rattle.pra_base.specs.declared.code.VarKind.{VarKind}
use Rattle.pra_base.specs.declared.code.VarKind.TheVariants.{Param, Plain, Constant}
use Rattle.pra_base.specs.declared.code.VInstr.{VInstr}
use Rattle.pra_base.specs.declared.code.VProc.{VProc}
use Rattle.pra_base.specs.Code.{kind_of, instr_at}
use Rattle.pra_base.specs.Operands.{is_role_of, operands, reads, writes, table, own_places}
use Rattle.pra_base.specs.Places.{number, allows, meet, without}
use Rattle.net_form.specs.declared.net.Strand.{Strand}
use Rattle.net_form.specs.Tables.{all_tables}
use Rattle.net_form.specs.Strands.{Lives, is_present, is_param, is_constant, across, roles_beside}
use Rattle.net_form.specs.Strands.{clobbers_beside, mask_at}
use Rattle.net_laws.specs.Homes.{is_there, passes, mask_in, allowed, has_home}
use Rattle.net_laws.proofs.Bits.{both_allow, met_allows}
use Rattle.net_laws.proofs.Runs.{IsRun}
use Rattle.net_laws.proofs.Sides.{side, side_of, side_across, mask_has, no_role, roles}
use Rattle.net_laws.proofs.Rows.{read_roles, written_roles, clobbers_three}

abbrev pub home : Bool → Place
home constant = cond constant Const Mem

own_home : (kind : VarKind) → allows (own_places kind) (number (home (is_constant kind))) ≡ true
own_home (Constant n) = refl
own_home Plain = refl
own_home (Param i) = refl

kept_mem : (n : ℕ) → (n ≡ 0) ⊎ ((n ≡ 2) ⊎ (n ≡ 7)) → (m : ℕ) → allows m 6 ≡ true →
    allows (without m n) 6 ≡ true
kept_mem n (inl e) m h = ap (λ n. allows (without m n) 6) e ∙ both_allow m _ 6 h refl
kept_mem n (inr (inl e)) m h = ap (λ n. allows (without m n) 6) e ∙ both_allow m _ 6 h refl
kept_mem n (inr (inr e)) m h = ap (λ n. allows (without m n) 6) e ∙ both_allow m _ 6 h refl

kept_const : (n : ℕ) → (n ≡ 0) ⊎ ((n ≡ 2) ⊎ (n ≡ 7)) → (m : ℕ) → allows m 7 ≡ true →
    allows (without m n) 7 ≡ true
kept_const n (inl e) m h = ap (λ n. allows (without m n) 7) e ∙ both_allow m _ 7 h refl
kept_const n (inr (inl e)) m h = ap (λ n. allows (without m n) 7) e ∙ both_allow m _ 7 h refl
kept_const n (inr (inr e)) m h = ap (λ n. allows (without m n) 7) e ∙ both_allow m _ 7 h refl

-- no instruction destroys what is at home
kept_home : (constant : Bool) (n : ℕ) → (n ≡ 0) ⊎ ((n ≡ 2) ⊎ (n ≡ 7)) → (m : ℕ) →
    allows m (number (home constant)) ≡ true → allows (without m n) (number (home constant)) ≡ true
kept_home true n some m h = kept_const n some m h
kept_home false n some m h = kept_mem n some m h

module _ (code : VProc) (live : Lives) (t : Strand) (run : IsRun code live t) where
  abbrev v : ℕ
  v = t.var.0

  abbrev b : ℕ
  b = t.block.0

  abbrev mask : ℕ → ℕ
  mask l = mask_at all_tables code live v b l

  there : (l : ℕ) → is_there t l ≡ true → mask_in t l ≡ mask l
  there l at = let p = and_parts (leb t.first l) (leb l t.last) at in
      run.masks l (leb-true t.first l p.0) (leb-true l t.last p.1)

  -- what the masks have where the strand is, it may be at
  pub allowed_has : (l p : ℕ) → is_there t l ≡ true → allows (mask l) p ≡ true →
      (passes t l ≡ true → allows (mask (across l)) p ≡ true) → allows (allowed t l) p ≡ true
  allowed_has l p at here beyond =
      elim (cases_Bool (passes t l)) as (λ _. allows (allowed t l) p ≡ true) [
        | inl is ↦ ap (λ x. allows
            (cond x (meet (mask_in t l) (mask_in t (across l))) (mask_in t l)) p)
            is
            ∙ both_allow (mask_in t l) (mask_in t (across l)) p
            (ap (λ m. allows m p) (there l at) ∙ here)
            (ap (λ m. allows m p) (there (across l)
            (and_parts (nat_lt 0 l) (is_there t (across l)) is).1) ∙ beyond is)
        | inr no_ ↦ ap (λ x. allows
            (cond x (meet (mask_in t l) (mask_in t (across l))) (mask_in t l))
            p) no_ ∙ ap (λ m. allows m p) (there l at) ∙ here
      ]

  pub allowed_was : (l p : ℕ) → is_there t l ≡ true → allows (allowed t l) p ≡ true →
      (allows (mask l) p ≡ true) × (passes t l ≡ true → allows (mask (across l)) p ≡ true)
  allowed_was l p at h = elim (cases_Bool (passes t l)) as (λ _. (allows (mask l) p ≡ true) ×
      (passes t l ≡ true → allows (mask (across l)) p ≡ true)) [
        | inl is ↦
            let parts = met_allows (mask_in t l) (mask_in t (across l)) p
            (sym (ap (λ x. allows (cond x (meet (mask_in t l) (mask_in t (across l))) (mask_in t l))
            p) is) ∙ h) in (
              sym (ap (λ m. allows m p) (there l at)) ∙ parts.0,
              λ _. sym (ap (λ m. allows m p)
                  (there (across l) (and_parts (nat_lt 0 l) (is_there t (across l)) is).1))
                  ∙ parts.1,
            )
        | inr no_ ↦ (
          sym (ap (λ m. allows m p) (there l at))
              ∙ sym (ap (λ x. allows (cond x (meet (mask_in t l) (mask_in t (across l)))
              (mask_in t l))
              p) no_) ∙ h,
          λ is. absurd (both_ways (passes t l) no_ is),
        )
      ]

  abbrev home_bit : ℕ
  home_bit = number (home (is_constant (kind_of code v)))

  home_at : (l : ℕ) → allows (allowed t l) home_bit ≡ true → has_home t l ≡ true
  home_at l h = ap (λ c. allows (allowed t l) (number (home c))) run.constant ∙ h

  -- beside no instruction, and beside one that has no role for it
  lost_home : (k : ℕ) (x : Bool) (o : Option VInstr) (m : ℕ) → allows m home_bit ≡ true →
      allows (without m (cond x (clobbers_beside operands o) 0)) home_bit ≡ true
  lost_home k true None m h = kept_home (is_constant (kind_of code v)) 0 (inl refl) m h
  lost_home k true (Some i) m h = kept_home (is_constant (kind_of code v)) (table i).clobbers
      (clobbers_three i) m h
  lost_home k false o m h = kept_home (is_constant (kind_of code v)) 0 (inl refl) m h

  home_side : (k : ℕ) (before : Bool) →
      list_any (is_role_of v) (roles_beside before operands (instr_at code b k)) ≡ false →
      allows (mask (side k before)) home_bit ≡ true
  home_side k before none = mask_has code live v b k before home_bit (own_home (kind_of code v))
      (no_role v home_bit (roles code live v b k before) none)
      (λ m h. lost_home k (is_present all_tables code live v b (side k (not before)))
      (instr_at code b k) m h)

  home_both : (k : ℕ) (before : Bool) → is_there t (side k before) ≡ true →
      ((c : Bool) → list_any (is_role_of v) (roles_beside c operands (instr_at code b k)) ≡ false) →
      has_home t (side k before) ≡ true
  home_both k before at none =
      home_at (side k before) (allowed_has (side k before) home_bit at
      (home_side k before (none before))
      (λ _. ap (λ l. allows (mask l) home_bit) (side_across k before) ∙ home_side k (not before)
      (none (not before))))

  -- at the entry
  entry_home : is_there t 0 ≡ true → has_home t 0 ≡ true
  entry_home at = home_at 0 (allowed_has 0 home_bit at here (λ is. absurd (none is)))
    where
      none : passes t 0 ≡ true → ⊥
      none is = let lt = ltb-true 0 0 (and_parts (nat_lt 0 0) (is_there t (across 0)) is).0 in
          omega (arith, lt)

      of_param : (kind : VarKind) → is_param kind ≡ true →
          allows 64 (number (home (is_constant kind))) ≡ true
      of_param (Param i) is = refl
      of_param Plain is = refl
      of_param (Constant n) is = absurd (both_ways (is_param (Constant n)) refl is)

      entry_mask : ℕ
      entry_mask = without (own_places (kind_of code v))
          (cond (is_present all_tables code live v b (across 0)) 0 0)

      some_mask : (x : Bool) → allows (without (own_places (kind_of code v)) (cond x 0 0))
          home_bit ≡ true
      some_mask true = kept_home (is_constant (kind_of code v)) 0 (inl refl)
          (own_places (kind_of code v)) (own_home (kind_of code v))
      some_mask false = kept_home (is_constant (kind_of code v)) 0 (inl refl)
          (own_places (kind_of code v)) (own_home (kind_of code v))

      here : allows (mask 0) home_bit ≡ true
      here = elim (cases_Bool (is_param (kind_of code v) && eqb b 0))
          as (λ _. allows (mask 0) home_bit ≡ true) [
            | inl is ↦ ap (λ x. allows (cond (x && true) 64 entry_mask) home_bit) is
                ∙ of_param (kind_of code v) (and_parts (is_param (kind_of code v)) (eqb b 0) is).0
            | inr no_ ↦ ap (λ x. allows (cond (x && true) 64 entry_mask) home_bit) no_
                ∙ some_mask (is_present all_tables code live v b (across 0))
          ]

  -- so there is one that has a role for it
  pub record IsBesideOperand (l : ℕ) : Type 0 where
    pub index : ℕ
    pub before : Bool
    pub instr : VInstr
    pub at : l ≡ side index before
    pub is : instr_at code b index ≡ Some instr
    pub named : (reads instr v || writes instr v) ≡ true

  pub away : (l : ℕ) → is_there t l ≡ true → has_home t l ≡ false → IsBesideOperand l
  away l at not_home = elim (cases_eq l 0) as (λ _. IsBesideOperand l) [
    | inl entry ↦ absurd (both_ways (has_home t l) not_home
        (subst (λ l. is_there t l ≡ true → has_home t l ≡ true) (sym entry) entry_home at))
    | inr later ↦ let s = side_of l (omega (arith, later)) in at_side s.index s.before s.is
        (instr_at code b s.index) refl
  ]
    where
      no_roles : (k : ℕ) (before : Bool) → l ≡ side k before →
          ((c : Bool) → list_any (is_role_of v) (roles_beside c operands (instr_at code b k)) ≡
          false) → ⊥
      no_roles k before is none = both_ways (has_home t l) not_home
          (subst (λ l. is_there t l ≡ true → has_home t l ≡ true) (sym is)
          (λ at. home_both k before at none) at)

      nowhere : (k : ℕ) (o : Option VInstr) → instr_at code b k ≡ o →
          ((c : Bool) → list_any (is_role_of v) (roles_beside c operands o) ≡ false)
          → (c : Bool) → list_any (is_role_of v) (roles_beside c operands (instr_at code b k)) ≡
          false
      nowhere k o same none c = ap (λ o. list_any (is_role_of v) (roles_beside c operands o)) same
          ∙ none c

      neither : (i : VInstr) → (reads i v || writes i v) ≡ false → (c : Bool) →
          list_any (is_role_of v) (roles_beside c operands (Some i)) ≡ false
      neither i none true = read_roles v i ∙ (or_parts (reads i v) (writes i v) none).0
      neither i none false = written_roles v i ∙ (or_parts (reads i v) (writes i v) none).1

      none_none : (c : Bool) → list_any (is_role_of v) (roles_beside c operands None) ≡ false
      none_none true = refl
      none_none false = refl

      at_side : (k : ℕ) (before : Bool) → l ≡ side k before → (o : Option VInstr) →
          instr_at code b k ≡ o → IsBesideOperand l
      at_side k before is None same = absurd (no_roles k before is (nowhere k None same none_none))
      at_side k before is (Some i) same =
          elim (cases_Bool (reads i v || writes i v)) as (λ _. IsBesideOperand l) [
            | inl named ↦ record {
              index = k;
              before = before;
              instr = i;
              at = is;
              is = same;
              named =
                  named;
            }
            | inr none ↦ absurd (no_roles k before is (nowhere k (Some i) same (neither i none)))
          ]
