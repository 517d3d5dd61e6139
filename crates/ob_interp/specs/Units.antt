-- A run of a module that counts units and stops where one more is due than was granted. A unit is
-- an assignment, a call or an IF that begins, or a test of the condition of a WHILE or REPEAT;
-- Read, Write and WriteLn are calls. The forms are those of the meaning (Wirth, The Programming
-- Language Oberon, sections 9 and 10), one equation a form.
use Rattle.std.specs.Prelude.{ℕ, zero, suc, ◌+◌, ℤ, nat_lt, List, [], ◌∷◌, Result, Ok, Err}
use Rattle.std.specs.Prelude.{Some, None, if◌then◌else◌}
use Rattle.pra_base.specs.Agreement.{Progress}
use Rattle.pra_base.specs.RunEnd as run
use Rattle.pra_base.specs.Words.{stack_limit}
use Rattle.pra_base.specs.declared.event.OutEvent.{OutEvent}
use Rattle.pra_base.specs.declared.event.TrapKind.{TrapKind}
use Rattle.pra_base.specs.declared.event.TrapKind.TheVariants.{Stack}
use Rattle.ob_syntax.specs.Operators.{Outcome, is_true}
use Rattle.ob_syntax.specs.declared.checked.Checked.{Checked}
use Rattle.ob_syntax.specs.declared.checked.RStmt.{RStmt, RStmt-F, fold-RStmt}
use Rattle.ob_syntax.specs.declared.checked.RArm.{RArm, RArm-F, fold-RArm}
use Rattle.ob_mean.specs.declared.store.Argument.{Argument}
use Rattle.ob_mean.specs.declared.store.LiveCall.{LiveCall}
use Rattle.ob_mean.specs.Designators.{depth}
use Rattle.ob_mean.specs.Expressions.{Evaluation, value}
use Rattle.ob_mean.specs.Statements.{State, Completion, Normal, Trapped, Going, Run, Around}
use Rattle.ob_mean.specs.Statements.{Execution, Arm, stmt_step, arguments}
use Rattle.ob_mean.specs.Program.{live_frames, frame_of, call_with, entered, body, only_body, start}
use Rattle.ob_mean.specs.Program.{progress}

-- what statements work on, and how many units were begun
pub record Counted : Type 0 where
  pub state : State
  pub units : ℕ

-- How a counted run comes to a halt: as it should, by a trap, or where one more unit is due.
pub data Halt : Type 0 where
  Done : Counted → Halt
  Failed : TrapKind → Counted → Halt
  Stopped : Counted → Halt

abbrev pub Counting : Type 0
Counting = Counted → Halt

-- a unit begins, unless so many were granted and begun before
abbrev pub unit : ℕ → Counting → Counting
unit granted go c =
    if nat_lt c.units granted then go (record c { units = c.units + 1 }) else Stopped c

-- ---- one after the other

abbrev pub then_go : Halt → Counting → Halt
then_go (Done c) next = next c
then_go (Failed trap c) next = Failed trap c
then_go (Stopped c) next = Stopped c

-- what follows with a value, unless there is a trap in its place
abbrev pub given : {A : Type 0} → Result A TrapKind → Counted → (A → Halt) → Halt
given (Ok a) c next = next a
given (Err trap) c next = Failed trap c

abbrev pub halt : ℕ → Completion → Halt
halt units (Normal s) = Done (record { state = s; units = units })
halt units (Trapped trap s) = Failed trap (record { state = s; units = units })
halt units (Going s) = Stopped (record { state = s; units = units })

-- what has no units of its own
abbrev pub does : Run → Counting
does run c = halt c.units (run c.state)

-- ---- loops: each test is a unit, so no loop has more turns than units are granted

abbrev pub while_units : ℕ → ℕ → (Counted → Outcome) → Counting → Counting
while_units zero granted test turn c = Stopped c
while_units (suc n) granted test turn c =
    unit granted (λ d. given (test d) d (λ x.
    if is_true x then then_go (turn d) (while_units n granted test turn) else Done d)) c

abbrev pub repeat_units : ℕ → ℕ → Counting → (Counted → Outcome) → Counting
repeat_units zero granted turn test c = Stopped c
repeat_units (suc n) granted turn test c =
    then_go (turn c) (unit granted (λ d. given (test d) d (λ x.
    if is_true x then Done d else repeat_units n granted turn test d)))

-- ---- what is around a statement

-- how many units are granted, the live calls, and what a call of a procedure does
pub record Granted : Type 0 where
  pub granted : ℕ
  pub calls : List LiveCall
  pub call : ℕ → List Argument → Counting

abbrev pub CountedStatement : Type 0
CountedStatement = Granted → Counting

abbrev pub CountedArm : Type 0
CountedArm = Evaluation × List CountedStatement

abbrev pub in_order : List CountedStatement → CountedStatement
in_order [] a c = Done c
in_order (f ∷ fs) a c = then_go (f a c) (in_order fs a)

abbrev pub on_counted : Evaluation → Granted → Counted → Outcome
on_counted x a c = x a.calls c.state.store

abbrev pub first_true : List CountedArm → List CountedStatement → CountedStatement
first_true [] other a c = in_order other a c
first_true (arm ∷ arms) other a c =
    given (on_counted arm.0 a c) c (λ x.
    if is_true x then in_order arm.1 a c else first_true arms other a c)

-- ---- statements

-- for a statement that holds no other and calls nothing
abbrev pub alone : List LiveCall → Around
alone calls = record { turns = 0; calls = calls; call = λ proc args s. Going s }

-- such a statement is a unit, and does what it means
abbrev pub single : Checked → RStmt-F Execution Arm → CountedStatement
single program t a = unit a.granted (does (stmt_step program t (alone a.calls)))

-- The arguments of a call are evaluated after its unit began.
abbrev pub counted_step : Checked → RStmt-F CountedStatement CountedArm → CountedStatement
counted_step program (RStmt-F.Assign v x) a = single program (RStmt-F.Assign v x) a
counted_step program (RStmt-F.If arms other) a = unit a.granted (first_true arms other a)
counted_step program (RStmt-F.While test ts) a =
    while_units a.granted a.granted (on_counted (value program test) a) (in_order ts a)
counted_step program (RStmt-F.Repeat ts test) a =
    repeat_units a.granted a.granted (in_order ts a) (on_counted (value program test) a)
counted_step program (RStmt-F.Call proc args) a =
    unit a.granted (λ c.
    given (arguments program a.calls c.state.store args) c (λ xs. a.call proc.0 xs c))
counted_step program (RStmt-F.Read v) a = single program (RStmt-F.Read v) a
counted_step program (RStmt-F.Write x) a = single program (RStmt-F.Write x) a
counted_step program RStmt-F.WriteLine a = single program RStmt-F.WriteLine a

abbrev pub counted_arm_step : Checked → RArm-F CountedStatement CountedArm → CountedArm
counted_arm_step program arm = (value program arm.test, arm.body)

-- What a statement does in units.
abbrev pub counted : Checked → RStmt → CountedStatement
counted program =
    fold-RStmt CountedStatement CountedArm (counted_step program) (counted_arm_step program)

abbrev pub counted_arm : Checked → RArm → CountedArm
counted_arm program =
    fold-RArm CountedStatement CountedArm (counted_step program) (counted_arm_step program)

-- What a statement sequence does in units.
abbrev pub counted_all : Checked → List RStmt → CountedStatement
counted_all program [] a c = Done c
counted_all program (t ∷ ts) a c = then_go (counted program t a c) (counted_all program ts a)

-- ---- calls

-- the parameters of a call are given and its locals begin
abbrev pub in_call : ℕ → List Argument → Counted → Counted
in_call depth args c =
    record c { state = record c.state { store = entered depth args c.state.store } }

-- A call traps where its frame would take the stack over its limit.
abbrev pub within_stack : List ℕ → List LiveCall → ℕ → Counting → Counting
within_stack frames calls proc go c =
    if nat_lt stack_limit (live_frames frames calls + frame_of frames proc)
    then Failed Stack c else go c

-- What a call does: each call is a unit, so calls stand no deeper than units are granted.
abbrev pub counted_call :
    Checked → List ℕ → (granted deeper : ℕ) → List LiveCall → ℕ → List Argument → Counting
counted_call program frames granted zero calls proc args c =
    within_stack frames calls proc Stopped c
counted_call program frames granted (suc deeper) calls proc args c =
    let calls' = call_with proc args ∷ calls in
    within_stack frames calls proc (λ d.
    counted_all program (body program proc)
    (record {
      granted = granted;
      calls = calls';
      call = counted_call program frames granted deeper calls';
    })
    (in_call (suc (depth calls)) args d)) c

-- what is around the statements of the running call
abbrev pub granted_around :
    Checked → List ℕ → (granted deeper : ℕ) → List LiveCall → Granted
granted_around program frames granted deeper calls = record {
  granted = granted;
  calls = calls;
  call = counted_call program frames granted deeper calls;
}

-- ---- the whole

-- no unit was begun
abbrev pub started : List ℤ → Counted
started input = record { state = start input; units = 0 }

-- The run of a module that stops where k units were begun and another is due.
abbrev pub units_run : Checked → List ℕ → List ℤ → ℕ → Halt
units_run program frames input k =
    counted_all program (body program 0) (granted_around program frames k k only_body)
    (started input)

-- what was written and taken, with the ending, if there is one
abbrev pub progress_in : Halt → Progress OutEvent run.RunEnd
progress_in (Done c) = progress c.state (Some run.Ended)
progress_in (Failed trap c) = progress c.state (Some (run.Trapped trap))
progress_in (Stopped c) = progress c.state None
