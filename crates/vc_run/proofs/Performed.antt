-- An action that is performed for equal targets and an equal operation.
use Rattle.std.proofs.Common.{◌≡◌, ℕ, List, Option, Result, subst}
use Rattle.vc_code.specs.declared.action.Action.{Action}
use Rattle.pra_base.specs.Code.{instr_at}
use Rattle.pra_base.specs.declared.code.VInstr.{VInstr}
use Rattle.pra_base.specs.declared.code.VProc.{VProc}
use Rattle.vc_code.specs.Machine.{Activation, State, Machine, act, apply}
use Rattle.vc_code.specs.Selected.{Vars, next_of, written}
use Rattle.vc_run.specs.declared.halt.Halt.{Halt}
use Rattle.vc_run.specs.Stands.{Whole, Performs}

pub performed : {X : Type 0} (m : Machine Vars) (s : State Vars) (old new : Whole)
    (r : Result X Halt) (c : Activation Vars) (to vs : List ℕ) (a b : Option Action) → to ≡ vs →
    a ≡ b →
    Performs old new r (apply m (λ xs. written c to xs) a s) →
    Performs old new r (apply m (λ xs. written c vs xs) b s)
performed m s old new r c to vs a b targets action done =
    subst (λ o. Performs old new r (apply m (λ xs. written c vs xs) o s)) action
    (subst (λ ws. Performs old new r (apply m (λ xs. written c ws xs) a s)) targets done)

-- what comes next at a call, of equal code and an equal instruction
pub acted : {X : Type 0} (m : Machine Vars) (s : State Vars) (old new : Whole) (r : Result X Halt)
    (code same : VProc) (o : Option VInstr) →
    o ≡ instr_at code s.top.home.block s.top.home.index → code ≡ same →
    Performs old new r (act m (next_of code s.top o) s) →
    Performs old new r (act m (next_of same s.top
    (instr_at same s.top.home.block s.top.home.index)) s)
acted m s old new r code same o at is done =
    subst (λ k. Performs old new r (act m (next_of k s.top
    (instr_at k s.top.home.block s.top.home.index)) s)) is
    (subst (λ i. Performs old new r (act m (next_of code s.top i) s)) at done)
