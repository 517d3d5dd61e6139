-- What holds of the variable of each role holds of each variable that the roles name.
use Rattle.std.proofs.Common.{◌≡◌, ℕ, suc, ◌+◌, ◌<◌, ◌||◌, Bool, true, false, inl, inr, nat_eq}
use Rattle.std.proofs.Common.{List, [], ◌∷◌, Some, length, get_or, refl, subst, arith}
use Rattle.std.proofs.lemmas.Bool.{eqb-true}
use Rattle.std.specs.List.{slice_get, list_any}
use Rattle.pra_list.proofs.Truths.{or_cases, or_right}
use Rattle.pra_base.specs.declared.code.VInstr.{VInstr}
use Rattle.pra_base.specs.Operands.{writes, only_writes, table}
use Rattle.vc_code.specs.declared.row.Role.{Role}
use Rattle.vc_live.specs.Equations.{named_in}

pub of_roles : (P : ℕ → Type 0) (roles : List Role) →
    ((k : ℕ) (r : Role) → slice_get roles k ≡ Some r → P r.var.0) → (v : ℕ) → named_in roles v ≡
    true → P v
unfolding named_in
of_roles P [] each v named = cc
of_roles P (r ∷ rs) each v named =
    elim (or_cases (nat_eq r.var.0 v) (named_in rs v) named) as (λ _. P v) [
      | inl is ↦ subst P (eqb-true r.var.0 v is) (each 0 r refl)
      | inr later ↦ of_roles P rs (λ k x at. each (suc k) x at) v later
    ]

-- what is only written is written
pub only_is_written : (i : VInstr) (v : ℕ) → only_writes i v ≡ true → writes i v ≡ true
only_is_written i v only = or_right (list_any (nat_eq v) (table i).in_place) (only_writes i v) only
