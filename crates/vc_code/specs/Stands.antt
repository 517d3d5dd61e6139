-- What the executable machine's parts stand for in the definition.
use Rattle.std.specs.Prelude.{◌≡◌, ℕ, suc, List, [], ◌∷◌, ◌++◌, map, take, drop, reverse}
use Rattle.std.specs.Prelude.{Option, Some, None, Result, Ok, Err}
use Rattle.pra_base.specs.declared.code.VProc.{VProc}
use Rattle.pra_base.specs.declared.ids.VarId.{VarId}
use Rattle.pra_base.specs.declared.code.Addr.{Addr}
use Rattle.pra_base.specs.Operands.{addressed, var_of}
use Rattle.vc_code.specs.declared.live.LiveCall.{LiveCall}
use Rattle.vc_code.specs.declared.machine.Halt.{Halt}
use Rattle.vc_code.specs.declared.machine.Halt.TheVariants.{Over, OutOfMemory}
use Rattle.vc_code.specs.declared.machine.Execution.{Execution}
use Rattle.vc_code.specs.Outcome.{run_end, run_end_of}
use Rattle.vc_code.specs.declared.program.Program.{Program}
use Rattle.vc_code.specs.Value.{Held}
use Rattle.vc_code.specs.Machine.{Shape, Activation, State, Machine, After, ended}
use Rattle.vc_code.specs.Selected.{Vars, held_by, at_point, written, shape, selected}

abbrev pub call_of : LiveCall → Activation Vars
call_of c = record {
  proc = c.proc.0;
  aggregates = c.aggregates.items;
  args = c.arguments.items;
  home = record { block = c.block.0; index = c.index; held = c.held.items };
}

-- the calls that wait, the latest first
abbrev pub calls_of : List LiveCall → List (Activation Vars)
calls_of calls = reverse (map call_of calls)

-- all live calls, the module's body first
abbrev pub calls_in : Execution → List (Activation Vars)
calls_in m = map call_of m.below.items ++ call_of m.top ∷ []

abbrev pub state_of : Execution → State Vars
state_of m = record {
  top = call_of m.top;
  below = calls_of m.below.items;
  pushed = reverse m.pushed.items;
  globals = m.globals.items;
  compared = m.compared;
  input = drop m.taken m.input.items;
  events = m.events;
  taken = m.taken;
  over = run_end_of m.ending;
}

-- the live calls below one of them, the latest first
abbrev pub calls_under : Execution → ℕ → List (Activation Vars)
calls_under m n = reverse (take n (calls_in m))

-- the running call behind its instruction, above the calls that wait
abbrev pub waiting : Execution → List (Activation Vars)
waiting m =
    at_point (call_of m.top) m.top.block.0 (suc m.top.index) m.top.held.items
    ∷ calls_of m.below.items

-- what variables of the running call hold
abbrev pub held_in : Execution → VProc → List ℕ → List Held
held_in m code vs = held_by code (call_of m.top) vs

-- ---- the code that runs

abbrev pub sizes_of : Program → ℕ → Shape
sizes_of p = shape p.code.now.procs p.frames.now

abbrev pub machine_of : Program → Machine Vars
machine_of p = selected p.code.now.procs p.frames.now

-- ---- a part of a step

-- what a part of a step leaves: the state that is wanted, or the old one, which the ending makes
-- the one that is wanted
abbrev pub Performs : {X : Type 0} → State Vars → State Vars → Result X Halt → State Vars → Type 0
Performs old new (Ok x) wanted = new ≡ wanted
Performs old new (Err (Over e)) wanted = (new ≡ old) × (wanted ≡ ended old (run_end e))
Performs old new (Err OutOfMemory) wanted = Unit {0}

-- what a part of a step makes of the machine, by how the state changes in the definition
abbrev pub Makes :
    {X : Type 0} → Execution → Execution → Result X Halt → (State Vars → State Vars) → Type 0
Makes old new result change = Performs (state_of old) (state_of new) result (change (state_of old))

-- what up to two targets are
abbrev pub listed : Option VarId × Option VarId → List ℕ
listed (None, w) = []
listed (Some v, None) = v.0 ∷ []
listed (Some v, Some w) = v.0 ∷ w.0 ∷ []

-- the call behind its instruction, which writes these variables
abbrev pub after : LiveCall → Option VarId × Option VarId → After Vars
after c to = λ xs. written (call_of c) (listed to) xs

-- the variables of an address
abbrev pub address_vars : Addr → List ℕ
address_vars a = map var_of (addressed a)
