-- How the rule on Pushes goes over one instruction.
use Rattle.std.specs.Prelude.{if◌then◌else◌}
use Rattle.std.proofs.Common.{◌≡◌, ℕ, suc, ◌+◌, ◌≤◌, ◌↔◌, Bool, true, false, nat_eq, IsTrue, List}
use Rattle.std.proofs.Common.{[], ◌∷◌, Option, Some, None, refl, sym, subst, arith}
use Rattle.std.proofs.lemmas.Bool.{eqb-true, eq-eqb}
use Rattle.std.proofs.lemmas.Bool.Decides.{nat_tests}
use Rattle.pra_list.proofs.Truths.{truth}
use Rattle.pra_base.specs.declared.ids.ProcId.{ProcId}
use Rattle.pra_base.specs.declared.code.VInstr.{VInstr}
use Rattle.pra_base.specs.declared.code.VInstr.TheVariants.{Push, Call}
use Rattle.pra_base.specs.Valid.{PushesLead}
use Rattle.vc_valid.specs.Rules.{pushes_after}

pub then_same : {A B C : Type 0} → (A ↔ B) → (B ↔ C) → (A ↔ C)
then_same one other = (λ a. other.0 (one.0 a), λ c. one.1 (other.1 c))

-- What is asked of an instruction and the rest behind n Pushes is asked of the rest behind so many,
-- or nothing can meet it.
abbrev pub GoesOver : (ℕ → ℕ → Type 0) → VInstr → ℕ → Option ℕ → Type 0
GoesOver Takes i n None = (rest : List VInstr) → PushesLead Takes n (i ∷ rest) → ⊥
GoesOver Takes i n (Some m) = (rest : List VInstr) → PushesLead Takes n (i ∷ rest) ↔ PushesLead
    Takes m rest

abbrev pub Fits : (ℕ → ℕ → Type 0) → VInstr → ℕ → Bool → Type 0
Fits Takes i n fits = (p : ProcId) → i ≡ Call p → IsTrue fits ↔ Takes p.0 n

module _ (Takes : ℕ → ℕ → Type 0) where
  over_call : (p : ProcId) (n : ℕ) (fits : Bool) → (IsTrue fits ↔ Takes p.0 n) →
      GoesOver Takes (Call p) n (pushes_after (Call p) n fits)
  over_call p n true takes = λ rest. (λ leads. leads.1, λ leads. (takes.0 refl, leads))
  over_call p n false takes = λ rest leads. absurd (let no = takes.1 leads.0 in cc)

  -- an instruction that is neither Push nor Call
  over_other : (i : VInstr) (n : ℕ) (none : Bool) → nat_eq n 0 ≡ none →
      ((m : ℕ) (rest : List VInstr) → PushesLead Takes m (i ∷ rest) ↔
      ((m ≡ 0) × PushesLead Takes 0 rest)) → GoesOver Takes i n (if none then Some 0 else None)
  over_other i n true is asks =
      λ rest. (
        λ leads. ((asks n rest).0 leads).1,
        λ leads. (asks n rest).1 (eqb-true n 0 is, leads),
      )
  over_other i n false is asks =
      λ rest leads. absurd (let some = eq-eqb n 0 ((asks n rest).0 leads).0 in cc)

  pub over : (i : VInstr) (n : ℕ) (fits : Bool) → Fits Takes i n fits →
      GoesOver Takes i n (pushes_after i n fits)
  over (Push s) n fits takes = λ rest. (λ x. x, λ x. x)
  over (Call p) n fits takes = over_call p n fits (takes p refl)
  over i n fits takes = over_other i n (nat_eq n 0) refl (λ m rest. (λ x. x, λ x. x))

  pub goes_on : (i : VInstr) (n m : ℕ) (fits : Bool) (rest : List VInstr) → Fits Takes i n fits →
      Some m ≡ pushes_after i n fits → PushesLead Takes n (i ∷ rest) ↔ PushesLead Takes m rest
  goes_on i n m fits rest takes is = subst (GoesOver Takes i n) (sym is) (over i n fits takes) rest

  pub breaks : (i : VInstr) (n : ℕ) (fits : Bool) (rest : List VInstr) → Fits Takes i n fits →
      None ≡ pushes_after i n fits → PushesLead Takes n (i ∷ rest) → ⊥
  breaks i n fits rest takes is = subst (GoesOver Takes i n) (sym is) (over i n fits takes) rest

-- at most one more Push
few_by : (n m : ℕ) (test : Bool) → Some m ≡ (if test then Some 0 else None) → m ≤ suc n
few_by n m true is = let zero : m ≡ 0 = cc in omega (arith, zero)
few_by n m false is = cc

pub few : (i : VInstr) (n m : ℕ) (fits : Bool) → Some m ≡ pushes_after i n fits → m ≤ suc n
few (Push s) n m fits is = let next : m ≡ suc n = cc in omega (arith, next)
few (Call p) n m fits is = few_by n m fits is
few i n m fits is = few_by n m (nat_eq n 0) is
