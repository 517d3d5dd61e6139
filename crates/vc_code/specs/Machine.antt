-- A machine of live calls (activation records), and how an action changes its state. What a live
-- call has beside its aggregates and arguments, its home, is each machine's own: here nothing is
-- known of it.
use Rattle.std.specs.Prelude.{ℕ, suc, ◌+◌, ◌-◌, ◌/◌, ◌%◌, ℤ, Bool, false, ◌&&◌, nat_eq, nat_lt}
use Rattle.std.specs.Prelude.{if◌then◌else◌, List, [], ◌∷◌, ◌++◌, length, map, slice_get, slice_set}
use Rattle.std.specs.Prelude.{Option, Some, None}
use Rattle.std.specs.List.{list_any}
use Rattle.pra_base.specs.Agreement.{Progress}
use Rattle.pra_base.specs.RunEnd.{RunEnd, Ended, Trapped, Wrong}
use Rattle.pra_base.specs.System.{run}
use Rattle.pra_base.specs.Words.{word, compares, stack_limit}
use Rattle.pra_base.specs.declared.event.TrapKind.TheVariants as trap
use Rattle.pra_base.specs.declared.event.OutEvent.{OutEvent}
use Rattle.pra_base.specs.declared.ids.Cond.{Cond}
use Rattle.pra_base.specs.declared.code.VarKind.{VarKind}
use Rattle.pra_base.specs.declared.code.VarKind.TheVariants.{Param}
use Rattle.pra_base.specs.declared.code.VInstr.{VInstr}
use Rattle.pra_base.specs.declared.code.End.{End}
use Rattle.pra_base.specs.declared.code.End.TheVariants.{Jump, Branch, Return}
use Rattle.vc_code.specs.declared.value.Object.{Object}
use Rattle.vc_code.specs.declared.value.Object.TheVariants.{Data, Aggregates, Cell}
use Rattle.vc_code.specs.declared.value.Value.{Value}
use Rattle.vc_code.specs.declared.value.Value.TheVariants.{Num}
use Rattle.vc_code.specs.declared.action.Here.{Here}
use Rattle.vc_code.specs.declared.action.Action.{Action}
use Rattle.vc_code.specs.declared.action.Action.TheVariants.{Nothing, Give, GiveBoth, Compare, Push}
use Rattle.vc_code.specs.declared.action.Action.TheVariants.{Call, Load, Store, Tell, Input, Clear}
use Rattle.vc_code.specs.declared.action.Action.TheVariants.{Trap}
use Rattle.vc_code.specs.Value.{Held, Words}
use Rattle.vc_code.specs.Operation.{operate, number}

-- what addresses and the stack need to know of a procedure: its variables, and the bytes of its
-- frame
pub record Shape : Type 0 where
  pub kinds : List VarKind
  pub frame_size : ℕ

-- A live call: its procedure, its aggregates, its arguments with the last one first, and its home.
pub record Activation (H : Type 0) : Type 0 where
  pub proc : ℕ
  pub aggregates : Words
  pub args : Words
  pub home : H

-- The running call, those that wait (the latest first), the pushes that wait for a Call (the latest
-- first), the module's data, what the last instruction compared, the input that is left, what was
-- done, and how the run ended.
pub record State (H : Type 0) : Type 0 where
  pub top : Activation H
  pub below : List (Activation H)
  pub pushed : Words
  pub globals : Words
  pub compared : Option (ℕ × ℕ)
  pub input : List ℤ
  pub events : List OutEvent
  pub taken : ℕ
  pub over : Option RunEnd

-- What comes next at a live call: an instruction, with what its operands hold and the call behind
-- it once values are in its written roles; a move, with the call behind it; or the end of the
-- block. None where there is no such call.
pub data Next (H : Type 0) : Type 0 where
  Instr : VInstr → List Held → (List Value → Option (Activation H)) → Next H
  Moves : Option (Activation H) → Next H
  Ends : End → Next H

-- What makes a machine: the shape of each procedure, what comes next, a call's begin from its
-- arguments, and the call at the begin of a block. A procedure or a block that is not there has
-- neither.
pub record Machine (H : Type 0) : Type 0 where
  pub shape : ℕ → Shape
  pub next : Activation H → Next H
  pub begin : ℕ → Words → Option (Activation H)
  pub jump : ℕ → Activation H → Option (Activation H)

-- ---- words of a list that stands in memory with its last word first

abbrev pub last_get : Words → ℕ → Option Held
last_get words i = if nat_lt i (length words) then slice_get words (length words - 1 - i) else None

abbrev pub last_set : Words → ℕ → Held → Words
last_set words i h = slice_set words (length words - 1 - i) h

-- ---- addresses and objects

-- the bytes of the frames of live calls
abbrev pub depth : {H : Type 0} → (ℕ → Shape) → List (Activation H) → ℕ
depth shape [] = 0
depth shape (c ∷ calls) = (shape c.proc).frame_size + depth shape calls

-- the running call above those that wait
abbrev pub live_in : {H : Type 0} → State H → List (Activation H)
live_in s = s.top ∷ s.below

-- how addresses name the running call
abbrev pub here : {H : Type 0} → (ℕ → Shape) → State H → Here
here shape s = record {
  calls = length s.below;
  sum = depth shape (s.top ∷ s.below);
  below = depth shape s.below;
}

abbrev pub is_param : ℕ → VarKind → Bool
is_param i (Param j) = nat_eq j i
is_param i _ = false

-- a variable's value stands in the cell of this argument
abbrev pub is_home : Shape → ℕ → Bool
is_home shape i = list_any (is_param i) shape.kinds

abbrev pub cell_words : Option Held → Words
cell_words None = []
cell_words (Some h) = h ∷ []

-- The cell of an argument has no words where it is a variable's home: no address names it.
abbrev pub cell : {H : Type 0} → (ℕ → Shape) → Activation H → ℕ → Words
cell shape c i = if is_home (shape c.proc) i then [] else cell_words (last_get c.args i)

-- the words of an object of the live calls, the latest call first
abbrev pub words_of : {H : Type 0} → (ℕ → Shape) → List (Activation H) → Object → Words
words_of shape [] x = []
words_of shape (c ∷ calls) Data = []
words_of shape (c ∷ calls) (Aggregates n sum) =
    if nat_eq n (length calls) && nat_eq sum (depth shape (c ∷ calls)) then c.aggregates
    else words_of shape calls (Aggregates n sum)
words_of shape (c ∷ calls) (Cell n below i) =
    if nat_eq n (length calls) && nat_eq below (depth shape calls) then cell shape c i
    else words_of shape calls (Cell n below i)

abbrev pub object : {H : Type 0} → (ℕ → Shape) → State H → Object → Words
object shape s Data = s.globals
object shape s (Aggregates n sum) = words_of shape (s.top ∷ s.below) (Aggregates n sum)
object shape s (Cell n below i) = words_of shape (s.top ∷ s.below) (Cell n below i)

-- the word at a byte offset, where the offset is that of one whole word of the object
abbrev pub word_at : Words → ℕ → Option Held
word_at words offset = if nat_eq (offset % 4) 0 then slice_get words (offset / 4) else None

abbrev pub with_aggregates : {H : Type 0} → Activation H → Words → Activation H
with_aggregates c words = record c { aggregates = words }

abbrev pub with_args : {H : Type 0} → Activation H → Words → Activation H
with_args c words = record c { args = words }

-- a call with another word in its aggregates, or in an argument
abbrev pub with_aggregate : {H : Type 0} → Activation H → ℕ → Held → Activation H
with_aggregate c w h = with_aggregates c (slice_set c.aggregates w h)

abbrev pub with_argument : {H : Type 0} → Activation H → ℕ → Held → Activation H
with_argument c i h = with_args c (last_set c.args i h)

-- the calls, with another word w in an object of one of them
abbrev pub calls_with :
    {H : Type 0} → (ℕ → Shape) → List (Activation H) → Object → ℕ → Held → List (Activation H)
calls_with shape [] x w h = []
calls_with shape (c ∷ calls) Data w h = c ∷ calls
calls_with shape (c ∷ calls) (Aggregates n sum) w h =
    if nat_eq n (length calls) && nat_eq sum (depth shape (c ∷ calls))
    then with_aggregate c w h ∷ calls
    else c ∷ calls_with shape calls (Aggregates n sum) w h
calls_with shape (c ∷ calls) (Cell n below i) w h =
    if nat_eq n (length calls) && nat_eq below (depth shape calls)
    then with_argument c i h ∷ calls
    else c ∷ calls_with shape calls (Cell n below i) w h

abbrev pub with_calls : {H : Type 0} → State H → List (Activation H) → State H
with_calls s [] = s
with_calls s (c ∷ calls) = record s { top = c; below = calls }

abbrev pub with_object : {H : Type 0} → (ℕ → Shape) → State H → Object → ℕ → Held → State H
with_object shape s Data w h = record s { globals = slice_set s.globals w h }
with_object shape s (Aggregates n sum) w h =
    with_calls s (calls_with shape (s.top ∷ s.below) (Aggregates n sum) w h)
with_object shape s (Cell n below i) w h =
    with_calls s (calls_with shape (s.top ∷ s.below) (Cell n below i) w h)

-- ---- what changes

abbrev pub ended : {H : Type 0} → State H → RunEnd → State H
ended s e = record s { over = Some e }

abbrev pub stuck : {H : Type 0} → State H → State H
stuck s = ended s Wrong

-- goes on with what is there, else is stuck
abbrev pub found : {H A : Type 0} → State H → Option A → (A → State H) → State H
found s None go = stuck s
found s (Some x) go = go x

-- only Cmp leaves what it compared
abbrev pub with_top : {H : Type 0} → State H → Activation H → State H
with_top s c = record s { top = c; compared = None }

abbrev pub with_compared : {H : Type 0} → ℕ → ℕ → State H → Activation H → State H
with_compared a b s c = record s { top = c; compared = Some (a, b) }

abbrev pub with_pushed : {H : Type 0} → Value → State H → Activation H → State H
with_pushed x s c = record s { top = c; compared = None; pushed = Some x ∷ s.pushed }

abbrev pub with_event : {H : Type 0} → OutEvent → State H → Activation H → State H
with_event e s c = record s { top = c; compared = None; events = s.events ++ e ∷ [] }

abbrev pub joined : Option Held → Held
joined None = None
joined (Some h) = h

-- a call that begins takes the pushes
abbrev pub with_call : {H : Type 0} → State H → Activation H → List (Activation H) → State H
with_call s c below = record s { top = c; below = below; pushed = []; compared = None }

-- The stack rule: a call whose frame would take the sum of all frames above the limit traps.
abbrev pub entered :
    {H : Type 0} → (ℕ → Shape) → State H → Activation H → List (Activation H) → State H
entered shape s c below =
    if nat_lt stack_limit (depth shape (c ∷ below)) then ended s (Trapped trap.Stack)
    else with_call s c below

abbrev pub returned : {H : Type 0} → State H → List (Activation H) → State H
returned s [] = ended s Ended
returned s (c ∷ calls) = record s { top = c; below = calls; compared = None }

abbrev pub zeroed : Words → Words
zeroed words = map (λ h. Some (Num 0)) words

abbrev pub with_cleared : {H : Type 0} → State H → Activation H → State H
with_cleared s c = with_top s (with_aggregates c (zeroed c.aggregates))

-- a word of the input was taken, of which this is the rest
abbrev pub with_rest : {H : Type 0} → List ℤ → State H → Activation H → State H
with_rest rest s c = record s { top = c; compared = None; input = rest; taken = suc s.taken }

-- ---- how an action changes the state

-- the call behind an instruction, with values in its written roles
abbrev pub After : Type 0 → Type 0
After H = List Value → Option (Activation H)

-- on to the call behind the instruction, by a change of the state
abbrev pub goes_on :
    {H : Type 0} → After H → List Value → (State H → Activation H → State H) → State H → State H
goes_on after xs change s = found s (after xs) (change s)

abbrev pub takes : {H : Type 0} → State H → List ℤ → After H → State H
takes s [] after = ended s (Trapped trap.Input)
takes s (n ∷ rest) after = goes_on after (Num (word n) ∷ []) (with_rest rest) s

abbrev pub enters : {H : Type 0} → Machine H → After H → ℕ → State H → State H
enters m after p s =
    found s (after []) (λ c. found s (m.begin p s.pushed)
    (λ callee. entered m.shape s callee (c ∷ s.below)))

-- the number in the word at a byte offset of an object
abbrev pub number_in : {H : Type 0} → (ℕ → Shape) → State H → Object → ℕ → Option ℕ
number_in shape s x o = number (joined (word_at (object shape s x) o))

abbrev pub loads : {H : Type 0} → (ℕ → Shape) → After H → Object → ℕ → State H → State H
loads shape after x o s =
    found s (number_in shape s x o) (λ n. goes_on after (Num n ∷ []) with_top s)

-- a number in that word, where there is one
abbrev pub with_number :
    {H : Type 0} → (ℕ → Shape) → Object → ℕ → ℕ → State H → Activation H → State H
with_number shape x o n s c =
    found s (word_at (object shape (with_top s c) x) o)
    (λ old. with_object shape (with_top s c) x (o / 4) (Some (Num n)))

abbrev pub apply : {H : Type 0} → Machine H → After H → Option Action → State H → State H
apply m after None s = stuck s
apply m after (Some Nothing) s = goes_on after [] with_top s
apply m after (Some (Give x)) s = goes_on after (x ∷ []) with_top s
apply m after (Some (GiveBoth x y)) s = goes_on after (x ∷ y ∷ []) with_top s
apply m after (Some (Compare a b)) s = goes_on after [] (with_compared a b) s
apply m after (Some (Push x)) s = goes_on after [] (with_pushed x) s
apply m after (Some (Call p)) s = enters m after p.0 s
apply m after (Some (Load x o)) s = loads m.shape after x o s
apply m after (Some (Store x o n)) s = goes_on after [] (with_number m.shape x o n) s
apply m after (Some (Tell e)) s = goes_on after [] (with_event e) s
apply m after (Some Input) s = takes s s.input after
apply m after (Some Clear) s = goes_on after [] with_cleared s
apply m after (Some (Trap k)) s = ended s (Trapped k)

-- ---- a step

abbrev pub goes_to : {H : Type 0} → Machine H → State H → ℕ → State H
goes_to m s b = found s (m.jump b s.top) (λ c. with_top s c)

abbrev pub branched : {H : Type 0} → Machine H → Cond → ℕ → ℕ → Option (ℕ × ℕ) → State H → State H
branched m k one other None s = stuck s
branched m k one other (Some (a, b)) s = goes_to m s (if compares k a b then one else other)

abbrev pub leave : {H : Type 0} → Machine H → End → State H → State H
leave m (Jump b) s = goes_to m s b.0
leave m (Branch k one other) s = branched m k one.0 other.0 s.compared s
leave m Return s = returned s s.below

-- a move keeps what was compared
abbrev pub act : {H : Type 0} → Machine H → Next H → State H → State H
act m (Instr i held after) s = apply m after (operate (here m.shape s) i held) s
act m (Moves after) s = found s after (λ c. record s { top = c })
act m (Ends e) s = leave m e s

-- what is over stays as it is
abbrev pub act_on : {H : Type 0} → Machine H → Option RunEnd → State H → State H
act_on m (Some e) s = s
act_on m None s = act m (m.next s.top) s

abbrev pub step : {H : Type 0} → Machine H → State H → State H
step m s = act_on m s.over s

abbrev pub view : {H : Type 0} → State H → Progress OutEvent RunEnd
view s = record { ending = s.over; events = s.events; taken = s.taken }

-- what so many steps of a machine come to
abbrev pub progress : {H : Type 0} → Machine H → State H → ℕ → Progress OutEvent RunEnd
progress m s n = view (run (step m) n s)

-- a run begins with one call, and with the module's data and the input that are given
abbrev pub first : {H : Type 0} → Activation H → Words → List ℤ → State H
first c globals input = record {
  top = c;
  below = [];
  pushed = [];
  globals = globals;
  compared = None;
  input = input;
  events = [];
  taken = 0;
  over = None;
}
