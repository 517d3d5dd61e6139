-- What statements mean (Wirth, The Programming Language Oberon, section 9; Compiler Construction,
-- chapter 6), one equation a form. A loop may go on for ever, so each execution of a loop has a
-- budget of turns, and calls have one of their depth.
use Rattle.std.specs.Prelude.{ℕ, zero, suc, ◌+◌, ℤ, List, [], ◌∷◌, ◌++◌, Result, Ok, Err}
use Rattle.std.specs.Prelude.{if◌then◌else◌}
use Rattle.pra_base.specs.declared.event.TrapKind.{TrapKind}
use Rattle.pra_base.specs.declared.event.TrapKind.TheVariants.{Input}
use Rattle.pra_base.specs.declared.event.OutEvent.{OutEvent}
use Rattle.pra_base.specs.declared.event.OutEvent.TheVariants as event
use Rattle.ob_syntax.specs.Operators.{Outcome, number, is_true}
use Rattle.pra_list.specs.Results.{◌>>=◌}
use Rattle.ob_syntax.specs.declared.checked.Checked.{Checked}
use Rattle.ob_syntax.specs.declared.checked.Value.{Value}
use Rattle.ob_syntax.specs.declared.checked.Value.TheVariants.{Number}
use Rattle.ob_syntax.specs.declared.checked.RArg.{RArg}
use Rattle.ob_syntax.specs.declared.checked.RArg.TheVariants as arg
use Rattle.ob_syntax.specs.declared.checked.RStmt.{RStmt, RStmt-F, fold-RStmt}
use Rattle.ob_syntax.specs.declared.checked.RArm.{RArm, RArm-F, fold-RArm}
use Rattle.ob_mean.specs.declared.store.Argument.{Argument}
use Rattle.ob_mean.specs.declared.store.Argument.TheVariants.{Passed, Lent}
use Rattle.ob_mean.specs.declared.store.Location.{Location}
use Rattle.ob_mean.specs.declared.store.LiveCall.{LiveCall}
use Rattle.ob_mean.specs.Store.{Store, assigned}
use Rattle.ob_mean.specs.Expressions.{Evaluation, value, location}

-- what statements work on: the store, the input that is left, what was written, and how many words
-- of the input were taken
pub record State : Type 0 where
  pub store : Store
  pub input : List ℤ
  pub events : List OutEvent
  pub taken : ℕ

-- How statements come to an end: as they should, by a trap, or not at all within the budgets.
pub data Completion : Type 0 where
  Normal : State → Completion
  Trapped : TrapKind → State → Completion
  Going : State → Completion

abbrev pub Run : Type 0
Run = State → Completion

-- ---- one after the other

abbrev pub then_do : Completion → Run → Completion
then_do (Normal s) next = next s
then_do (Trapped trap s) next = Trapped trap s
then_do (Going s) next = Going s

-- what follows with a value or a location, unless there is a trap in its place
abbrev pub with : {A : Type 0} → Result A TrapKind → State → (A → Completion) → Completion
with (Ok a) s next = next a
with (Err trap) s next = Trapped trap s

abbrev pub store_at : State → Location → Value → State
store_at s l x = record s { store = assigned s.store l x }

abbrev pub written : State → OutEvent → State
written s e = record s { events = s.events ++ e ∷ [] }

-- Read takes the next input word, or traps where none is left.
abbrev pub read_to : List ℤ → Location → Run
read_to [] l s = Trapped Input s
read_to (word ∷ rest) l s =
    Normal (record s {
      store = assigned s.store l (Number word);
      input = rest;
      taken = s.taken + 1;
    })

-- ---- loops

-- A turn of WHILE tests its condition and, where it is TRUE, does its statements.
abbrev pub while_turns : ℕ → (State → Outcome) → Run → Run
while_turns zero test body s = Going s
while_turns (suc n) test body s =
    with (test s) s (λ x.
    if is_true x then then_do (body s) (while_turns n test body) else Normal s)

-- A turn of REPEAT does its statements and then tests its condition; the loop is done where it is
-- TRUE.
abbrev pub repeat_turns : ℕ → Run → (State → Outcome) → Run
repeat_turns zero body test s = Going s
repeat_turns (suc n) body test s =
    then_do (body s) (λ t.
    with (test t) t (λ x. if is_true x then Normal t else repeat_turns n body test t))

-- ---- what is around a statement

-- how many turns each loop may take, the live calls, and what a call of a procedure does
pub record Around : Type 0 where
  pub turns : ℕ
  pub calls : List LiveCall
  pub call : ℕ → List Argument → Run

-- The meaning of a statement.
abbrev pub Execution : Type 0
Execution = Around → Run

-- the meaning of a condition and of the statements behind it
abbrev pub Arm : Type 0
Arm = Evaluation × List Execution

abbrev pub in_turn : List Execution → Execution
in_turn [] a s = Normal s
in_turn (f ∷ fs) a s = then_do (f a s) (in_turn fs a)

abbrev pub on_state : Evaluation → Around → State → Outcome
on_state x a s = x a.calls s.store

-- IF: the statements behind the first condition that is TRUE, or those of ELSE
abbrev pub chosen : List Arm → List Execution → Execution
chosen [] other a s = in_turn other a s
chosen (arm ∷ arms) other a s =
    with (on_state arm.0 a s) s (λ x.
    if is_true x then in_turn arm.1 a s else chosen arms other a s)

-- ---- arguments

abbrev pub argument : Checked → List LiveCall → Store → RArg → Result Argument TrapKind
argument program calls s (arg.Value x) = value program x calls s >>= λ y. Ok (Passed y)
argument program calls s (arg.Lent v) = location program v calls s >>= λ l. Ok (Lent l)

-- All arguments are evaluated before the call, from left to right.
abbrev pub arguments : Checked → List LiveCall → Store → List RArg → Result (List Argument) TrapKind
arguments program calls s [] = Ok []
arguments program calls s (x ∷ xs) =
    argument program calls s x >>= λ y. arguments program calls s xs >>= λ ys. Ok (y ∷ ys)

-- ---- statements

-- The location of the target is found before the right side is evaluated, and before Read takes its
-- word.
abbrev pub stmt_step : Checked → RStmt-F Execution Arm → Execution
stmt_step program (RStmt-F.Assign v x) a s =
    with (location program v a.calls s.store) s (λ l.
    with (value program x a.calls s.store) s (λ y. Normal (store_at s l y)))
stmt_step program (RStmt-F.If arms other) a s = chosen arms other a s
stmt_step program (RStmt-F.While test body) a s =
    while_turns a.turns (on_state (value program test) a) (in_turn body a) s
stmt_step program (RStmt-F.Repeat body test) a s =
    repeat_turns a.turns (in_turn body a) (on_state (value program test) a) s
stmt_step program (RStmt-F.Call proc args) a s =
    with (arguments program a.calls s.store args) s (λ xs. a.call proc.0 xs s)
stmt_step program (RStmt-F.Read v) a s =
    with (location program v a.calls s.store) s (λ l. read_to s.input l s)
stmt_step program (RStmt-F.Write x) a s =
    with (value program x a.calls s.store) s (λ y. Normal (written s (event.Number (number y))))
stmt_step program RStmt-F.WriteLine a s = Normal (written s event.Line)

abbrev pub arm_step : Checked → RArm-F Execution Arm → Arm
arm_step program arm = (value program arm.test, arm.body)

abbrev pub arm_of : Checked → RArm → Arm
arm_of program = fold-RArm Execution Arm (stmt_step program) (arm_step program)

-- What a statement does.
abbrev pub exec : Checked → RStmt → Execution
exec program = fold-RStmt Execution Arm (stmt_step program) (arm_step program)

-- What a statement sequence does.
abbrev pub exec_all : Checked → List RStmt → Execution
exec_all program [] a s = Normal s
exec_all program (t ∷ ts) a s = then_do (exec program t a s) (exec_all program ts a)
