-- What a tree is to the checker: what a module stands for, or the one cause for which it stands for
-- none.
use Rattle.std.specs.Prelude.{◌≡◌, ◌≢◌, ◌⊎◌, ℕ, List, Some, Result, MatchResult, IsErrOf}
use Rattle.pra_base.specs.declared.limit.LimitKind.{LimitKind}
use Rattle.ob_measure.specs.declared.fault.MeasureFault.{MeasureFault}
use Rattle.ob_measure.specs.declared.fault.MeasureFault.TheVariants as measured
use Rattle.ob_syntax.specs.declared.checked.Checked.{Checked}
use Rattle.ob_syntax.specs.declared.token.Token.{Token}
use Rattle.ob_syntax.specs.declared.tree.Module.{Module}
use Rattle.ob_syntax.specs.Declarations.{Reading}
use Rattle.ob_syntax.specs.WellFormed.{IsBroken, IsWellFormed, IsWithin, first_excess, resolved}
use Rattle.ob_check.specs.declared.fault.CheckFault.{CheckFault}
use Rattle.ob_check.specs.declared.fault.CheckFault.TheVariants.{Rule, Limit, OutOfMemory}
use Rattle.ob_check.specs.declared.refusal.Refusal.{Refusal}
use Rattle.ob_check.specs.declared.refusal.Refusal.TheVariants as refusal
use Rattle.ob_check.specs.Rules.{rule_number}

-- The module breaks no rule and keeps within the limits, and this is what it stands for.
pub record IsChecked (bytes : List ℕ) (tokens : List Token) (m : Module) (c : Checked)
    : Type 0 where
  pub reading : Reading
  pub well_formed : IsWellFormed bytes tokens m reading
  pub within : IsWithin reading
  pub checked_is : c ≡ resolved m reading

-- The module breaks no rule, and this quantity of it is the first that is above its maximum.
pub record IsBeyond (bytes : List ℕ) (tokens : List Token) (m : Module) (kind : LimitKind) (n : ℕ)
    : Type 0 where
  pub reading : Reading
  pub well_formed : IsWellFormed bytes tokens m reading
  pub excess : first_excess reading ≡ Some (kind, n)

-- why the module stands for nothing; want of memory lies in no module
abbrev pub IsCause : List ℕ → List Token → Module → CheckFault → Type 0
IsCause bytes tokens m (Rule rule token) = IsBroken bytes tokens m rule token
IsCause bytes tokens m (Limit kind n) = IsBeyond bytes tokens m kind n
IsCause bytes tokens m OutOfMemory = ⊥

-- The answer is what the module stands for, or a cause that it has, unless memory is wanting.
abbrev pub IsAnswer : List ℕ → List Token → Module → Result Checked CheckFault → Type 0
IsAnswer bytes tokens m answer =
    MatchResult answer (IsChecked bytes tokens m)
    (λ fault. fault ≢ OutOfMemory → IsCause bytes tokens m fault)

-- the answer is this refusal, unless memory is wanting
abbrev pub IsErrUnlessMemory : {T : Type 0} → Result T CheckFault → CheckFault → Type 0
IsErrUnlessMemory answer fault = IsErrOf answer fault ⊎ IsErrOf answer OutOfMemory

-- ---- what the parts of the checker refuse, as the whole tells it

abbrev pub of_refusal : Refusal → CheckFault
of_refusal (refusal.Broken rule token) = Rule (rule_number rule) token
of_refusal refusal.OutOfMemory = OutOfMemory

abbrev pub of_measure : MeasureFault → CheckFault
of_measure (measured.Limit kind n) = Limit kind n
of_measure measured.OutOfMemory = OutOfMemory
