-- What a module does (Wirth, The Programming Language Oberon, sections 10 and 11; Compiler
-- Construction, chapter 6): calls of its procedures, and the run of its body.
use Rattle.std.specs.Prelude.{ℕ, zero, suc, ◌+◌, ℤ, List, [], ◌∷◌, map, nat_lt, sum_by, slice_get}
use Rattle.std.specs.Prelude.{slice_index, Option, Some, None, if◌then◌else◌}
use Rattle.pra_base.specs.Agreement.{Progress}
use Rattle.pra_base.specs.RunEnd as run
use Rattle.pra_base.specs.Words.{stack_limit}
use Rattle.pra_base.specs.declared.event.OutEvent.{OutEvent}
use Rattle.pra_base.specs.declared.event.TrapKind.TheVariants.{Stack}
use Rattle.ob_syntax.specs.declared.checked.Checked.{Checked}
use Rattle.ob_syntax.specs.declared.checked.CheckedProc.{CheckedProc}
use Rattle.ob_syntax.specs.declared.checked.RStmt.{RStmt}
use Rattle.ob_mean.specs.declared.store.Object.TheVariants.{Param}
use Rattle.ob_mean.specs.declared.store.Argument.{Argument}
use Rattle.ob_mean.specs.declared.store.Argument.TheVariants.{Passed, Lent}
use Rattle.ob_mean.specs.declared.store.Location.{Location}
use Rattle.ob_mean.specs.declared.store.LiveCall.{LiveCall}
use Rattle.ob_mean.specs.Store.{Store, new_store, whole, assigned, begun}
use Rattle.ob_mean.specs.Designators.{depth}
use Rattle.ob_mean.specs.Statements.{State, Completion, Normal, Trapped, Going, Run, Around}
use Rattle.ob_mean.specs.Statements.{exec_all}

-- ---- the stack

-- the bytes of the frame of a procedure
abbrev pub frame_of : List ℕ → ℕ → ℕ
frame_of frames proc = slice_index frames proc

-- the frames of all live calls together, the module's body included
abbrev pub live_frames : List ℕ → List LiveCall → ℕ
live_frames frames calls = sum_by (λ call. frame_of frames call.proc.0) calls

-- A call traps where its frame would take the stack over its limit. This is looked at before the
-- budget of calls.
abbrev pub on_stack : List ℕ → List LiveCall → ℕ → State → Completion → Completion
on_stack frames calls proc s called =
    if nat_lt stack_limit (live_frames frames calls + frame_of frames proc)
    then Trapped Stack s else called

-- ---- parameters

abbrev pub lent_of : Argument → Option Location
lent_of (Passed x) = None
lent_of (Lent l) = Some l

-- the call of a procedure with these arguments
abbrev pub call_with : ℕ → List Argument → LiveCall
call_with proc args = record { proc = record { 0 = proc }; lent = map lent_of args }

-- the arguments from number k on, as the first values of the value parameters
abbrev pub passed : ℕ → ℕ → List Argument → Store → Store
passed depth k [] s = s
passed depth k (Passed x ∷ args) s =
    passed depth (k + 1) args (assigned s (whole (Param depth k)) x)
passed depth k (Lent l ∷ args) s = passed depth (k + 1) args s

-- The store in which the body of a call at this depth begins: its value parameters have their
-- arguments, its locals are 0 or FALSE.
abbrev pub entered : ℕ → List Argument → Store → Store
entered depth args s = passed depth 0 args (begun s depth)

-- ---- calls

abbrev pub body_of : Option CheckedProc → List RStmt
body_of None = []
body_of (Some proc) = proc.body

abbrev pub body : Checked → ℕ → List RStmt
body program proc = body_of (slice_get program.procs proc)

-- What a call does under these live calls, where each loop takes so many turns, and calls stand so
-- much deeper: the body of its procedure.
abbrev pub called :
    Checked → List ℕ → (turns deeper : ℕ) → List LiveCall → ℕ → List Argument → Run
called program frames turns zero calls proc args s = on_stack frames calls proc s (Going s)
called program frames turns (suc deeper) calls proc args s =
    let calls' = call_with proc args ∷ calls in
    on_stack frames calls proc s
    (exec_all program (body program proc)
    (record { turns = turns; calls = calls'; call = called program frames turns deeper calls' })
    (record s { store = entered (suc (depth calls)) args s.store }))

-- what is around the statements of the running call
abbrev pub around : Checked → List ℕ → (turns deeper : ℕ) → List LiveCall → Around
around program frames turns deeper calls =
    record { turns = turns; calls = calls; call = called program frames turns deeper calls }

-- ---- the whole

-- the module's body, which is procedure 0, alone
abbrev pub only_body : List LiveCall
only_body = call_with 0 [] ∷ []

-- every variable is 0 or FALSE, nothing is written, and no word of the input is taken
abbrev pub start : List ℤ → State
start input = record { store = new_store; input = input; events = []; taken = 0 }

abbrev pub progress : State → Option run.RunEnd → Progress OutEvent run.RunEnd
progress s ending = record { ending = ending; events = s.events; taken = s.taken }

abbrev pub progress_of : Completion → Progress OutEvent run.RunEnd
progress_of (Normal s) = progress s (Some run.Ended)
progress_of (Trapped trap s) = progress s (Some (run.Trapped trap))
progress_of (Going s) = progress s None

-- what the module's body comes to with the frames of its procedures, where each loop takes at most
-- n turns and calls stand at most n deep
abbrev pub completion : Checked → List ℕ → List ℤ → ℕ → Completion
completion program frames input n =
    exec_all program (body program 0) (around program frames n n only_body) (start input)

-- The meaning of a module.
abbrev pub mean : Checked → List ℕ → List ℤ → ℕ → Progress OutEvent run.RunEnd
mean program frames input n = progress_of (completion program frames input n)
