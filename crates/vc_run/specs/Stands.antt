-- What the executable machine stands for in the definition, and what a part of a step makes of it.
use Rattle.std.specs.Prelude.{◌≡◌, ℕ, suc, List, [], ◌∷◌, ◌++◌, drop, map, reverse, None}
use Rattle.std.specs.Prelude.{Result, Ok, Err}
use Rattle.pra_base.specs.RunEnd.{Ended, Trapped, Wrong}
use Rattle.pra_base.specs.declared.code.VProc.{VProc}
use Rattle.pra_base.specs.declared.code.Addr.{Addr}
use Rattle.pra_base.specs.Operands.{addressed, var_of}
use Rattle.vc_code.specs.Value.{Held}
use Rattle.vc_code.specs.Machine.{Shape, Activation, State, Machine, ended}
use Rattle.vc_code.specs.Selected.{Vars, held_by, at_point, shape, selected}
use Rattle.vc_run.specs.declared.halt.Halt.{Halt}
use Rattle.vc_run.specs.declared.halt.Halt.TheVariants as halt
use Rattle.vc_run.specs.declared.machine.Execution.{Execution}
use Rattle.vc_run.specs.declared.program.Program.{Program}
use Rattle.vc_run.specs.Calls.{call_of}
use Rattle.vc_run.specs.Procs.{procs_of}

-- all live calls, the module's body first
abbrev pub calls_in : Execution → List (Activation Vars)
calls_in m = m.below.calls ++ call_of m.top ∷ []

abbrev pub state_of : Execution → State Vars
state_of m = record {
  top = call_of m.top;
  below = reverse m.below.calls;
  pushed = reverse m.pushed.items;
  globals = m.globals.items;
  compared = m.compared;
  input = drop m.taken m.input.items;
  events = m.events;
  taken = m.taken;
  over = None;
}

-- the state, and the bytes of each procedure's frame, which no step changes
pub record Whole : Type 0 where
  pub frames : List ℕ
  pub state : State Vars

abbrev pub whole_of : Execution → Whole
whole_of m = record { frames = m.below.frames; state = state_of m }

abbrev pub changed : Whole → State Vars → Whole
changed w s = record { frames = w.frames; state = s }

-- the running call behind its instruction, above the calls that wait
abbrev pub waiting : Execution → List (Activation Vars)
waiting m =
    at_point (call_of m.top) m.top.block.0 (suc m.top.index) m.top.held.items
    ∷ reverse m.below.calls

-- what variables of the running call hold
abbrev pub held_in : Execution → VProc → List ℕ → List Held
held_in m code vs = held_by code (call_of m.top) vs

-- the variables of an address
abbrev pub address_vars : Addr → List ℕ
address_vars a = map var_of (addressed a)

-- ---- the code that runs

abbrev pub sizes_of : Program → Execution → ℕ → Shape
sizes_of p m = shape (procs_of p.codes.now) m.below.frames

abbrev pub machine_of : Program → Execution → Machine Vars
machine_of p m = selected (procs_of p.codes.now) m.below.frames

-- ---- a part of a step

-- What a part of a step leaves: the state that is wanted, or the old one, which the ending makes the
-- one that is wanted.
abbrev pub Performs : {X : Type 0} → Whole → Whole → Result X Halt → State Vars → Type 0
Performs old new (Ok x) wanted = new ≡ changed old wanted
Performs old new (Err halt.Ended) wanted = (new ≡ old) × (wanted ≡ ended old.state Ended)
Performs old new (Err (halt.Trap k)) wanted = (new ≡ old) × (wanted ≡ ended old.state (Trapped k))
Performs old new (Err halt.Stuck) wanted = (new ≡ old) × (wanted ≡ ended old.state Wrong)
Performs old new (Err halt.OutOfMemory) wanted = Unit {0}

-- what a part of a step makes of the machine, by how the state changes in the definition
abbrev pub Makes :
    {X : Type 0} → Execution → Execution → Result X Halt → (State Vars → State Vars) → Type 0
Makes old new result change = Performs (whole_of old) (whole_of new) result (change (state_of old))
