-- Running on in code under construction: from the end of what an open block has so far, over any
-- code that holds what was added.
use Rattle.std.specs.Prelude.{◌≡◌, ℕ, ◌<◌, List, length, Option, Some, None}
use Rattle.std.specs.Prelude.{Result, Ok, Err, slice_index_or}
use Rattle.pra_base.specs.RunEnd.{Trapped}
use Rattle.pra_base.specs.System.{run}
use Rattle.pra_base.specs.declared.event.TrapKind.{TrapKind}
use Rattle.pra_base.specs.Code as code
use Rattle.pra_base.specs.Operands.{read_by, written_by}
use Rattle.pra_base.specs.declared.code.VInstr.{VInstr}
use Rattle.pra_base.specs.declared.code.End.{End}
use Rattle.pra_base.specs.declared.code.VProc.{VProc}
use Rattle.vc_code.specs.declared.action.Action.{Action}
use Rattle.vc_code.specs.declared.value.Value.{Value}
use Rattle.vc_code.specs.Operation.{operate}
use Rattle.vc_code.specs.Machine.{Activation, State, here, apply, leave, step, with_top, ended}
use Rattle.vc_code.specs.Selected.{Vars, read, written, held_by, code_of, shape, selected}
use Rattle.vc_build.specs.Grow.{Grows}

-- the procedures that run, and the bytes of their frames
pub record Codes : Type 0 where
  pub procs : List VProc
  pub frames : List ℕ

-- what so many steps come to
abbrev pub runs : Codes → ℕ → State Vars → State Vars
runs w n s = run (step (selected w.procs w.frames)) n s

-- the call stands behind all that a block has
pub record Stands (made : VProc) (b : ℕ) (c : Activation Vars) : Type 0 where
  pub block : c.home.block ≡ b
  pub index : c.home.index ≡ length (code.code_of made b)

-- The running call is of a procedure whose code holds what was made, and nothing is over. It has
-- all variables of that code.
pub record RunsIn (w : Codes) (id : ℕ) (made : VProc) (s : State Vars) : Type 0 where
  pub proc : s.top.proc ≡ id
  pub holds : Grows made (code_of w.procs id)
  pub going : s.over ≡ None
  pub compared : s.compared ≡ None
  pub room : length s.top.home.held ≡ length (code_of w.procs id).vars

-- the same call, with the variables below a number as they were
pub record SameBelow (n : ℕ) (old new : Activation Vars) : Type 0 where
  pub proc : new.proc ≡ old.proc
  pub aggregates : new.aggregates ≡ old.aggregates
  pub args : new.args ≡ old.args
  pub room : length new.home.held ≡ length old.home.held
  pub held : (v : ℕ) → v < n →
      slice_index_or new.home.held v None ≡ slice_index_or old.home.held v None

-- ---- one step

-- what an instruction that stands at the running call comes to
abbrev pub acted : Codes → VInstr → State Vars → Option Action
acted w i s =
    operate (here (shape w.procs w.frames) s) i
    (held_by (code_of w.procs s.top.proc) s.top (read_by i))

abbrev pub performed : Codes → VInstr → State Vars → State Vars
performed w i s =
    apply (selected w.procs w.frames) (λ xs. written s.top (written_by i) xs) (acted w i s) s

-- what an end comes to
abbrev pub left : Codes → End → State Vars → State Vars
left w end s = leave (selected w.procs w.frames) end s

-- ---- some steps

-- Some steps change nothing but the running call, for which Q then holds: no object, no event, no
-- word of the input.
pub record Reaches (w : Codes) (s : State Vars) (Q : Activation Vars → Type 0) : Type 0 where
  pub steps : ℕ
  pub call : Activation Vars
  pub there : runs w steps s ≡ with_top s call
  pub good : Q call

-- Some steps change nothing but the running call, and then trap.
pub record Traps (w : Codes) (s : State Vars) (trap : TrapKind) : Type 0 where
  pub steps : ℕ
  pub call : Activation Vars
  pub there : runs w steps s ≡ ended (with_top s call) (Trapped trap)

-- After added code a variable holds a value, and the variables below a number are as they were.
pub record Holds (w : Codes) (id : ℕ) (made : VProc) (b v n : ℕ) (old : Activation Vars)
    (x : Value) (new : Activation Vars) : Type 0 where
  pub stands : Stands made b new
  pub same : SameBelow n old new
  pub value : read (code.kind_of (code_of w.procs id)) new.home.held v ≡ Some x

-- what is said of a value is reached, or the trap comes
abbrev pub Yields :
    {A : Type 0} → Codes → State Vars → (A → Activation Vars → Type 0) → Result A TrapKind → Type 0
Yields w s Q (Ok x) = Reaches w s (Q x)
Yields w s Q (Err trap) = Traps w s trap
