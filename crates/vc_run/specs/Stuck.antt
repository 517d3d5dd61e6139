-- Why a run of selected code is stuck, and where. A stuck state keeps all but how the run ended
-- (`stuck` of vc_code, specs/Machine), so both are read off the state as it stands: what comes next
-- at its running call is what means nothing.
use Rattle.std.specs.Prelude.{ℕ, Bool, true, false, if◌then◌else◌, List, Option, Some, None}
use Rattle.std.specs.List.{list_any}
use Rattle.pra_base.specs.declared.code.Base.{Base}
use Rattle.pra_base.specs.declared.code.Base.TheVariants.{Via}
use Rattle.pra_base.specs.declared.code.VInstr.{VInstr}
use Rattle.pra_base.specs.declared.code.VInstr.TheVariants.{DivMod, Load, Store, Addr}
use Rattle.vc_code.specs.declared.value.Value.TheVariants.{Num, At}
use Rattle.vc_code.specs.declared.action.Action.{Action}
use Rattle.vc_code.specs.declared.action.Action.TheVariants as action
use Rattle.vc_code.specs.Value.{Held}
use Rattle.vc_code.specs.Operation.{operate, value_at}
use Rattle.vc_code.specs.Machine.{Shape, State, Machine, Next, Instr, Moves, Ends}
use Rattle.vc_code.specs.Machine.{here, object, word_at}
use Rattle.vc_code.specs.Selected.{Vars}
use Rattle.vc_run.specs.declared.out.StuckKind.{StuckKind}
use Rattle.vc_run.specs.declared.out.StuckKind.TheVariants.{Address, Nothing, Access, Divide}
use Rattle.vc_run.specs.declared.out.Cause.{Cause}

-- ---- an instruction that has no action (`operate` of vc_code, specs/Operation)

abbrev pub is_nothing : Held → Bool
is_nothing None = true
is_nothing (Some x) = false

abbrev pub is_number : Held → Bool
is_number (Some (Num n)) = true
is_number _ = false

abbrev pub is_address : Held → Bool
is_address (Some (At x o)) = true
is_address _ = false

-- An address: it begins at a number, which is in no object, or has an address in the place of a
-- number.
abbrev pub kind_of_base : Base → List Held → StuckKind
kind_of_base (Via v) held = if is_number (value_at held 0) then Access else Address
kind_of_base _ held = Address

-- Each operand holds a value: numbers are divided by what is not positive, and all else has an
-- address in the place of a number.
abbrev pub kind_of_values : VInstr → List Held → StuckKind
kind_of_values (DivMod q r a d) held = if list_any is_address held then Address else Divide
kind_of_values (Load v a) held = kind_of_base a.base held
kind_of_values (Store a s) held = kind_of_base a.base held
kind_of_values (Addr v a) held = kind_of_base a.base held
kind_of_values _ held = Address

abbrev pub kind_of_operands : VInstr → List Held → StuckKind
kind_of_operands i held = if list_any is_nothing held then Nothing else kind_of_values i held

-- ---- an instruction with an action (`apply` of vc_code, specs/Machine)

-- What a Load finds at a byte of its object: no whole word, a word that holds nothing, an address,
-- or a number that no variable is there to take.
abbrev pub kind_of_word : Option Held → StuckKind
kind_of_word None = Access
kind_of_word (Some None) = Nothing
kind_of_word (Some (Some (At x o))) = Address
kind_of_word (Some (Some (Num n))) = Nothing

-- A Store finds no whole word. Of all else a variable, a procedure or an input is not there.
abbrev pub kind_of_action :
    (ℕ → Shape) → State Vars → VInstr → List Held → Option Action → StuckKind
kind_of_action shape s i held None = kind_of_operands i held
kind_of_action shape s i held (Some (action.Load x o)) = kind_of_word (word_at (object shape s x) o)
kind_of_action shape s i held (Some (action.Store x o n)) = Access
kind_of_action shape s i held (Some a) = Nothing

-- ---- whatever comes next (`act` of vc_code, specs/Machine)

-- A block's end has nothing that was compared, or leads to no block.
abbrev pub kind_of_next : (ℕ → Shape) → State Vars → Next Vars → StuckKind
kind_of_next shape s (Instr i held after) =
    kind_of_action shape s i held (operate (here shape s) i held)
kind_of_next shape s (Moves after) = Nothing
kind_of_next shape s (Ends e) = Nothing

abbrev pub kind_of_stuck : Machine Vars → State Vars → StuckKind
kind_of_stuck m s = kind_of_next m.shape s (m.next s.top)

-- the cause, at the place where the running call stands
abbrev pub cause_of : Machine Vars → State Vars → Cause
cause_of m s = record {
  kind = kind_of_stuck m s;
  proc = record { 0 = s.top.proc };
  block = record { 0 = s.top.home.block };
  instruction = s.top.home.index;
}
