-- An action that is performed for equal targets and an equal operation.
use Rattle.std.proofs.Common.{◌≡◌, ℕ, List, Option, Result, subst}
use Rattle.vc_code.specs.declared.action.Action.{Action}
use Rattle.vc_code.specs.declared.machine.Halt.{Halt}
use Rattle.vc_code.specs.Machine.{Activation, State, Machine, apply}
use Rattle.vc_code.specs.Selected.{Vars, written}
use Rattle.vc_code.specs.Stands.{Performs}

pub performed : {X : Type 0} (m : Machine Vars) (s t : State Vars) (r : Result X Halt)
    (c : Activation Vars) (to vs : List ℕ) (a b : Option Action) → to ≡ vs → a ≡ b →
    Performs s t r (apply m (λ xs. written c to xs) a s) →
    Performs s t r (apply m (λ xs. written c vs xs) b s)
performed m s t r c to vs a b targets action done =
    subst (λ o. Performs s t r (apply m (λ xs. written c vs xs) o s)) action
    (subst (λ ws. Performs s t r (apply m (λ xs. written c ws xs) a s)) targets done)
