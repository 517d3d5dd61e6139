-- Where a variable is present, with its mask there.
use Rattle.std.proofs.Common.{ℕ, ◌≡◌, Bool, true, false, not, ◌&&◌, ◌||◌, cond, Some, None, Option}
use Rattle.std.proofs.Common.{◌⊎◌, inl, inr, eqb, refl, sym, ap, ◌∙◌}
use Rattle.std.specs.List.{list_any}
use Rattle.std.proofs.lemmas.Bool.{cases_eq, ne_eqb}
use Rattle.pra_base.specs.declared.ids.Place.TheVariants.{Mem}
use Rattle.pra_base.specs.declared.code.VInstr.{VInstr}
use Rattle.pra_base.specs.declared.code.VProc.{VProc}
use Rattle.pra_base.specs.Code.{kind_of}
use Rattle.pra_base.specs.Operands.{is_role_of, operands}
use Rattle.pra_base.specs.Places.{only, without}
use Rattle.net_form.specs.Strands.{Lives, is_before, beside, roles_beside, is_present, mask_at}
use Rattle.net_form.specs.Strands.{is_param, met_mask, clobbered, begins}
use Rattle.net_form.specs.Tables.{all_tables}
use Rattle.net_build.specs.Runs.{present_mask}

module _ (code : VProc) (live : Lives) (v b l : ℕ) where
  abbrev has_role : Option VInstr → Bool
  has_role o = list_any (is_role_of v) (roles_beside (is_before l) operands o)

  -- by whether it is live and whether it has a role
  abbrev there : Bool → Bool → Bool
  there alive named = alive || (not (is_before l) && named)

  presence : (o : Option VInstr) (alive named : Bool) → o ≡ beside code b l → alive ≡ live v b l →
      named ≡ has_role o → is_present all_tables code live v b l ≡ there alive named
  presence o alive named is lives role =
      sym ((λ i. there (lives i) (role i)) ∙ ap (λ o. there (live v b l) (has_role o)) is)

  and_false : (x : Bool) → (x && false) ≡ false
  and_false true = refl
  and_false false = refl

  -- without a role
  pub alone : (alive t : Bool) → alive ≡ t → there alive false ≡ t
  alone true t e = e
  alone false t e = and_false (not (is_before l)) ∙ e

  pub absent : (o : Option VInstr) (alive named : Bool) → o ≡ beside code b l →
      alive ≡ live v b l → named ≡ has_role o → there alive named ≡ false →
      None ≡ present_mask code live v b l
  absent o alive named is lives role none = sym (ap (λ t. cond t
      (Some (mask_at all_tables code live v b l)) None)
      (presence o alive named is lives role ∙ none))

  pub present : (o : Option VInstr) (alive named : Bool) (m : ℕ) → o ≡ beside code b l →
      alive ≡ live v b l → named ≡ has_role o → there alive named ≡ true →
      m ≡ mask_at all_tables code live v b l → Some m ≡ present_mask code live v b l
  present o alive named m is lives role some mask =
      ap (λ k. Some k) mask ∙ sym (ap (λ t. cond t (Some (mask_at all_tables code live v b l)) None)
      (presence o alive named is lives role ∙ some))

  -- where there is an instruction no parameter comes in
  pub mask_there : (i : VInstr) (m : ℕ) → Some i ≡ beside code b l →
      m ≡ without (met_mask all_tables code v b l) (clobbered all_tables code live v b l) →
      m ≡ mask_at all_tables code live v b l
  mask_there i m is mask = mask ∙ sym (ap (λ t. cond (is_param (kind_of code v) && eqb b 0 && t)
      (only Mem) (without (met_mask all_tables code v b l) (clobbered all_tables code live v b l)))
      (not_first (cases_eq l 0)) ∙ ap (λ t. cond t (only Mem)
      (without (met_mask all_tables code v b l) (clobbered all_tables code live v b l)))
      (and_false (is_param (kind_of code v) && eqb b 0)))
    where
      not_first : (l ≡ 0) ⊎ (l ≡ 0 → ⊥) → eqb l 0 ≡ false
      not_first (inr other) = ne_eqb l 0 other
      not_first (inl first) =
          let none : Some i ≡ None = is ∙ ap (λ n. beside code b n) first in absurd (cc)

-- what an answer says of the test that it rests on
pub if_some : (t : Bool) (m x : ℕ) → Some x ≡ cond t (Some m) None → (t ≡ true) × (x ≡ m)
if_some true m x is = (refl, cc)
if_some false m x is = absurd (cc)

pub if_none : (t : Bool) (m : ℕ) → None ≡ cond t (Some m) None → t ≡ false
if_none true m is = absurd (cc)
if_none false m is = refl

-- what is live at a block's entry begins there
pub begins_at_entry : (code : VProc) (live : Lives) (v b : ℕ) → live v b 0 ≡ true →
    begins all_tables code live v b 0 ≡ true
begins_at_entry code live v b is = rw is refl
