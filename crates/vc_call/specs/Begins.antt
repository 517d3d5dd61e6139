-- What waits for a call in the state of selected code, and the state in which the statements of the
-- call begin (Wirth, Compiler Construction, chapter 12).
use Rattle.std.specs.Prelude.{◌≡◌, ℕ, ◌<◌, true, false, List, ◌∷◌, length, Some, slice_get}
use Rattle.ob_syntax.specs.Operators.{number}
use Rattle.ob_syntax.specs.declared.checked.CheckedProc.{CheckedProc}
use Rattle.ob_syntax.specs.declared.checked.Local.{Local}
use Rattle.ob_syntax.specs.declared.checked.Param.{Param}
use Rattle.ob_mean.specs.declared.store.Argument.{Argument}
use Rattle.ob_mean.specs.declared.store.Argument.TheVariants.{Passed, Lent}
use Rattle.ob_mean.specs.declared.store.LiveCall.{LiveCall}
use Rattle.vc_code.specs.declared.value.Value.TheVariants.{Num}
use Rattle.vc_code.specs.Value.{Held, Words}
use Rattle.vc_code.specs.Machine.{Activation, State, joined, is_home, last_get}
use Rattle.vc_code.specs.Selected.{Vars}
use Rattle.vc_relation.specs.Homes.{in_variable, local_in_variable, param_variable, local_variable}
use Rattle.vc_relation.specs.Relation.{SelectedModule, shapes_of, IsKept, IsAddressOf, held_at}

-- ---- arguments

-- What was pushed for an argument: the word of a value for a value parameter, the address of what
-- is lent for a VAR parameter.
abbrev pub IsPushed : SelectedModule → List LiveCall → Param → Argument → Held → Type 0
IsPushed t calls param (Passed x) held =
    (param.by_var ≡ false) × IsKept param.type_id (number x) held
IsPushed t calls param (Lent l) held =
    (param.by_var ≡ true) × IsAddressOf t calls l param.type_id held

-- One argument is pushed for each parameter, the last one on top.
pub record ArePushed
    (t : SelectedModule) (calls : List LiveCall) (params : List Param) (args : List Argument)
    (pushed : Words) : Type 0 where
  pub as_many : length args ≡ length params
  pub count : length pushed ≡ length params
  pub each : (k : ℕ) (param : Param) (arg : Argument) → slice_get params k ≡ Some param →
      slice_get args k ≡ Some arg → IsPushed t calls param arg (joined (last_get pushed k))

-- ---- where statements begin

-- The running call is of a procedure. What is its own of the call is as it begins: parameters have
-- these arguments, and locals are 0. An argument that is no variable's is in its cell.
pub record HasBegun
    (t : SelectedModule) (id : ℕ) (proc : CheckedProc) (pushed : Words) (s : State Vars)
    : Type 0 where
  pub proc_is : s.top.proc ≡ id
  pub args : s.top.args ≡ pushed
  pub params : (k : ℕ) (param : Param) → slice_get proc.params k ≡ Some param →
      in_variable param ≡ true → held_at s (param_variable proc k) ≡ joined (last_get pushed k)
  pub cells : (k : ℕ) (param : Param) → slice_get proc.params k ≡ Some param →
      in_variable param ≡ false → is_home (shapes_of t id) k ≡ false
  pub locals : (k : ℕ) (local : Local) → slice_get proc.locals k ≡ Some local →
      local_in_variable local ≡ true → held_at s (local_variable proc k) ≡ Some (Num 0)
  pub aggregates : (w : ℕ) → w < proc.aggregate_words →
      joined (slice_get s.top.aggregates w) ≡ Some (Num 0)

-- a call that stands elsewhere, or has other temporaries
abbrev pub at_home : Activation Vars → Vars → Activation Vars
at_home c home = record c { home = home }

-- The caller waits above the calls that waited before, with the same variables; and the module's
-- data is as it was.
pub record Waits (old new : State Vars) : Type 0 where
  pub home : Vars
  pub below : new.below ≡ at_home old.top home ∷ old.below
  pub held : home.held ≡ old.top.home.held
  pub globals : new.globals ≡ old.globals
