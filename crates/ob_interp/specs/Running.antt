-- What a run while it goes on stands for.
use Rattle.std.specs.Prelude.{◌≡◌, ℕ, ◌+◌, ◌-◌, ℤ, List, [], ◌∷◌, Vec, Result, Ok, Err, drop}
use Rattle.std.specs.Prelude.{length}
use Rattle.std.specs.Prelude.{if◌then◌else◌, ◌<◌, ◌≤◌, ◌^◌, map, Option, Some, None}
use Rattle.std.specs.declared.alloc.Global.{Global}
use Rattle.pra_base.specs.declared.event.TrapKind.{TrapKind}
use Rattle.pra_list.specs.Results.{◌>>=◌}
use Rattle.ob_syntax.specs.Operators.{number, is_true}
use Rattle.ob_syntax.specs.declared.checked.Checked.{Checked}
use Rattle.ob_syntax.specs.declared.checked.Shape.{Shape}
use Rattle.ob_syntax.specs.declared.checked.RExpr.{RExpr}
use Rattle.ob_syntax.specs.declared.checked.RStmt.{RStmt, RStmt-F, fold-RStmt}
use Rattle.ob_mean.specs.declared.store.Argument.{Argument}
use Rattle.ob_mean.specs.declared.store.LiveCall.{LiveCall}
use Rattle.ob_mean.specs.Store.{Store}
use Rattle.ob_mean.specs.Designators.{shape_of, array_length, element_type, field_type, Selector}
use Rattle.ob_mean.specs.Designators.{Field, Element, picked}
use Rattle.ob_mean.specs.Expressions.{value, location}
use Rattle.ob_mean.specs.Statements.{State, Run, Normal, with, store_at, written, read_to}
use Rattle.ob_mean.specs.Statements.{arguments}
use Rattle.pra_base.specs.declared.event.OutEvent.TheVariants as event
use Rattle.ob_syntax.specs.declared.checked.RVar.{RVar}
use Rattle.ob_mean.specs.Program.{live_frames}
use Rattle.ob_interp.specs.Kept.{store_in}
use Rattle.ob_interp.specs.Units.{Counted, Halt, Done, Failed, Stopped, Counting, unit, then_go}
use Rattle.ob_interp.specs.Units.{given, does, while_units, repeat_units, Granted, on_counted}
use Rattle.ob_interp.specs.Units.{first_true, counted, counted_arm, counted_all, granted_around}
use Rattle.ob_interp.specs.declared.running.Setting.{Setting}
use Rattle.ob_interp.specs.declared.running.Finish.{Finish}
use Rattle.ob_interp.specs.declared.running.Finish.TheVariants as finish
use Rattle.ob_interp.specs.declared.running.Running.{Running}
use Rattle.ob_interp.specs.declared.running.Followed.{Followed}
use Rattle.ob_interp.specs.declared.task.Task.{Task}
use Rattle.ob_interp.specs.declared.task.Task.TheVariants as task
use Rattle.ob_interp.specs.declared.task.Due.{Due}
use Rattle.ob_interp.specs.declared.task.Due.TheVariants as due
use Rattle.ob_interp.specs.declared.task.First.{First}
use Rattle.ob_interp.specs.declared.task.First.TheVariants as first

abbrev pub store_of : Running → Store
store_of r = store_in r.memory

abbrev pub element_of : Shape → ℤ → Result Followed TrapKind
element_of shape index =
    picked (array_length shape) index >>= λ k.
    Ok (record { part = k; type_id = element_type shape })

-- where a selector leads
abbrev pub followed : List Shape → ℕ → Selector → Result Followed TrapKind
followed shapes type_id (Field k) =
    Ok (record { part = k; type_id = field_type (shape_of shapes type_id) k })
followed shapes type_id (Element x) =
    x >>= λ v. element_of (shape_of shapes type_id) (number v)

-- ---- states

-- the state of the meaning, where input is the whole input
abbrev pub state_of : List ℤ → Running → State
state_of input r = record {
  store = store_of r;
  input = drop r.taken input;
  events = r.events;
  taken = r.taken;
}

abbrev pub counted_of : List ℤ → Running → Counted
counted_of input r = record { state = state_of input r; units = r.units }

abbrev pub halt_of : Finish → Counted → Halt
halt_of finish.Done c = Done c
halt_of (finish.Failed trap) c = Failed trap c
halt_of finish.Stopped c = Stopped c

-- what a run has come to
abbrev pub halted : Setting → Running → Finish → Halt
halted setting r f = halt_of f (counted_of setting.input.now r)

-- arguments as a list
abbrev pub listed : Result (Vec Argument Global) TrapKind → Result (List Argument) TrapKind
listed (Ok args) = Ok args.items
listed (Err trap) = Err trap

-- ---- statements that hold no others, as runs of the meaning

abbrev pub assigning : Checked → List LiveCall → RVar → RExpr → Run
assigning program calls v e s =
    with (location program v calls s.store) s (λ l.
    with (value program e calls s.store) s (λ y. Normal (store_at s l y)))

abbrev pub reading : Checked → List LiveCall → RVar → Run
reading program calls v s = with (location program v calls s.store) s (λ l. read_to s.input l s)

abbrev pub writing : Checked → List LiveCall → RExpr → Run
writing program calls e s =
    with (value program e calls s.store) s (λ y. Normal (written s (event.Number (number y))))

abbrev pub ending_line : Run
ending_line s = Normal (written s event.Line)

-- ---- what is still to be done

-- what is around statements, by the live calls: each of them took a unit, but for the body's
abbrev pub here : Checked → List ℕ → ℕ → List LiveCall → Granted
here program frames granted calls =
    granted_around program frames granted (granted + 1 - length calls) calls

-- what a unit is due for, once it has begun
abbrev pub begun_of : Checked → Due → Granted → Counting
begun_of program (due.Assign v x) a = does (assigning program a.calls v.now x.now)
begun_of program (due.If arms other) a =
    first_true (map (counted_arm program) arms.now) (map (counted program) other.now) a
begun_of program (due.Call proc args) a =
    λ c. given (arguments program a.calls c.state.store args.now) c (λ xs. a.call proc xs c)
begun_of program (due.Read v) a = does (reading program a.calls v.now)
begun_of program (due.Write x) a = does (writing program a.calls x.now)
begun_of program due.WriteLine a = does ending_line
begun_of program (due.While test ts) a =
    λ c. given (on_counted (value program test.now) a c) c (λ x.
    if is_true x
    then then_go (counted_all program ts.now a c)
    (while_units a.granted a.granted (on_counted (value program test.now) a)
    (counted_all program ts.now a))
    else Done c)
begun_of program (due.Until ts test) a =
    λ c. given (on_counted (value program test.now) a c) c (λ x.
    if is_true x then Done c
    else repeat_units a.granted a.granted (counted_all program ts.now a)
    (on_counted (value program test.now) a) c)

abbrev pub due_of : Checked → Due → Granted → Counting
due_of program d a = unit a.granted (begun_of program d a)

-- what a statement leads to, by how it begins
abbrev pub leads : Checked → First → Granted → Counting
leads program (first.Due d) a c = due_of program d a c
leads program (first.Repeat ts test) a c =
    then_go (counted_all program ts.now a c) (due_of program (due.Until ts test) a)

-- the calls below the running one
abbrev pub below : List LiveCall → List LiveCall
below [] = []
below (call ∷ calls) = calls

-- what tasks come to, one after the other
abbrev pub goes_on : Checked → List ℕ → ℕ → List Task → List LiveCall → Counting
goes_on program frames k [] calls c = Done c
goes_on program frames k (task.Statements ts ∷ tasks) calls c =
    then_go (counted_all program ts.now (here program frames k calls) c)
    (goes_on program frames k tasks calls)
goes_on program frames k (task.While test ts ∷ tasks) calls c =
    then_go (due_of program (due.While test ts) (here program frames k calls) c)
    (goes_on program frames k tasks calls)
goes_on program frames k (task.Until ts test ∷ tasks) calls c =
    then_go (due_of program (due.Until ts test) (here program frames k calls) c)
    (goes_on program frames k tasks calls)
goes_on program frames k (task.Return ∷ tasks) calls c =
    goes_on program frames k tasks (below calls) c

-- what is left of a run comes to this
abbrev pub remains : Setting → List Task → Running → Halt
remains setting tasks r =
    goes_on setting.program.now setting.frames.now setting.granted tasks r.calls.items
    (counted_of setting.input.now r)

-- the same behind what comes first
abbrev pub behind : Setting → List Task → Running → Counting → Halt
behind setting tasks r first =
    then_go (first (counted_of setting.input.now r))
    (goes_on setting.program.now setting.frames.now setting.granted tasks r.calls.items)

abbrev pub around : Setting → Running → Granted
around setting r = here setting.program.now setting.frames.now setting.granted r.calls.items

-- the same where a unit is due
abbrev pub due_remains : Setting → Due → List Task → Running → Halt
due_remains setting d tasks r =
    behind setting tasks r (due_of setting.program.now d (around setting r))

-- and where the unit has just begun
abbrev pub begun_remains : Setting → Due → List Task → Running → Halt
begun_remains setting d tasks r =
    behind setting tasks r (begun_of setting.program.now d (around setting r))

-- how a run goes on: with what is left, or to a halt
abbrev pub comes_to : Setting → List Task → Running → Option Finish → Halt
comes_to setting tasks r None = remains setting tasks r
comes_to setting tasks r (Some f) = halted setting r f

-- what comes to its end goes on, all else is a halt
abbrev pub ends_in : Finish → Option Finish
ends_in finish.Done = None
ends_in (finish.Failed trap) = Some (finish.Failed trap)
ends_in finish.Stopped = Some finish.Stopped

-- ---- runs in order

-- each live call took a unit but for the body's, and no more were begun than are granted
pub record IsRunning (setting : Setting) (r : Running) : Type 0 where
  pub calls : length r.calls.items ≤ r.units + 1
  pub many : length r.calls.items < 2 ^ 32
  pub units : r.units ≤ setting.granted
  pub taken : r.taken ≤ r.units
  pub stack : r.stack ≡ live_frames setting.frames.now r.calls.items

-- and one unit more than that has begun
pub record IsBegun (setting : Setting) (r : Running) : Type 0 where
  pub running : IsRunning setting r
  pub begun : length r.calls.items ≤ r.units
  pub free : r.taken + 1 ≤ r.units

-- ---- what is done before the next unit: REPEAT leads to its statements

abbrev pub weighed : List ℕ → ℕ
weighed [] = 0
weighed (n ∷ ns) = n + weighed ns

abbrev pub weight_step : RStmt-F ℕ ℕ → ℕ
weight_step (RStmt-F.Repeat ts test) = 3 + weighed ts
weight_step _ = 1

abbrev pub weight : RStmt → ℕ
weight = fold-RStmt ℕ ℕ weight_step (λ arm. 0)

abbrev pub weights : List RStmt → ℕ
weights [] = 0
weights (t ∷ ts) = weight t + weights ts

abbrev pub task_weight : Task → ℕ
task_weight (task.Statements ts) = 1 + weights ts.now
task_weight _ = 1

abbrev pub tasks_weight : List Task → ℕ
tasks_weight [] = 0
tasks_weight (t ∷ ts) = task_weight t + tasks_weight ts

abbrev pub first_weight : First → ℕ
first_weight (first.Due d) = 1
first_weight (first.Repeat ts test) = 3 + weights ts.now
