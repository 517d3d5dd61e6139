-- The machine of placed code: a live call has registers and slots, and stands before what is left
-- of its block.
use Rattle.std.specs.Prelude.{ℕ, ◌+◌, ℤ, Bool, true, nat_eq, if◌then◌else◌, List, [], ◌∷◌, ◌++◌}
use Rattle.std.specs.Prelude.{length, map, drop, replicate}
use Rattle.std.specs.Prelude.{slice_get, slice_set, slice_index_or, Option, Some, None}
use Rattle.std.specs.Int.{bit_at}
use Rattle.pra_base.specs.Agreement.{Progress}
use Rattle.pra_base.specs.RunEnd.{RunEnd}
use Rattle.pra_base.specs.Places.{number, register_count, has_register, register_of, needs_slot}
use Rattle.pra_base.specs.Places.{is_const}
use Rattle.pra_base.specs.Operands.{table, read_by, written_by}
use Rattle.pra_base.specs.Words.{word}
use Rattle.pra_base.specs.declared.event.OutEvent.{OutEvent}
use Rattle.pra_base.specs.declared.code.VarKind.{VarKind}
use Rattle.pra_base.specs.declared.code.VarKind.TheVariants.{Param, Plain, Constant}
use Rattle.pra_base.specs.declared.code.VInstr.{VInstr}
use Rattle.pra_base.specs.declared.code.End.{End}
use Rattle.pra_base.specs.declared.code.End.TheVariants.{Jump}
use Rattle.vc_code.specs.declared.value.Value.{Value}
use Rattle.vc_code.specs.declared.value.Value.TheVariants.{Num}
use Rattle.vc_code.specs.Value.{Held, Words}
use Rattle.vc_code.specs.Machine.{Shape, Activation, State, Next, Instr, Moves, Ends, Machine}
use Rattle.vc_code.specs.Machine.{last_get, last_set, joined, first, progress}
use Rattle.pl_moves.specs.Meaning.{Cell, Register, Memory, Fixed, Holding, moved}
use Rattle.pl_place.specs.declared.placed.LInstr.{LInstr}
use Rattle.pl_place.specs.declared.placed.LInstr.TheVariants as placed
use Rattle.pl_place.specs.declared.placed.LBlock.{LBlock}
use Rattle.pl_place.specs.declared.placed.LProc.{LProc}
use Rattle.pl_place.specs.Placed.{kind_of, slot_of, frame_size}

-- What a call has beside aggregates and arguments: its block, what is left of it and its end, the
-- registers, and the slots with the last one first. The registers are each call's own, also while
-- it waits.
pub record Cells : Type 0 where
  pub block : ℕ
  pub rest : List LInstr
  pub end : End
  pub regs : Words
  pub slots : Words

-- ---- what cells hold

-- the memory of a variable: its argument's cell, or its slot
pub data Spot : Type 0 where
  Slot : ℕ → Spot
  Argument : ℕ → Spot
  Nowhere : Spot

abbrev pub slotted : Option ℕ → Spot
slotted (Some k) = Slot k
slotted None = Nowhere

abbrev pub spot_as : VarKind → Option ℕ → Spot
spot_as (Param i) slot = Argument i
spot_as Plain slot = slotted slot
spot_as (Constant n) slot = Nowhere

abbrev pub spot : LProc → ℕ → Spot
spot p v = spot_as (kind_of p v) (slot_of p v)

-- what is there, or None where nothing is there
abbrev pub in_spot : Activation Cells → Spot → Option Held
in_spot c (Slot k) = last_get c.home.slots k
in_spot c (Argument i) = last_get c.args i
in_spot c Nowhere = None

abbrev pub with_regs : Activation Cells → Words → Activation Cells
with_regs c regs = record c { home = record c.home { regs = regs } }

abbrev pub with_spot : Activation Cells → Spot → Held → Activation Cells
with_spot c (Slot k) h = record c { home = record c.home { slots = last_set c.home.slots k h } }
with_spot c (Argument i) h = record c { args = last_set c.args i h }
with_spot c Nowhere h = c

-- the call, where what is to be written is there
abbrev pub if_there : Option Held → Activation Cells → Option (Activation Cells)
if_there None c = None
if_there (Some old) c = Some c

abbrev pub at_cell : LProc → Activation Cells → Cell → Option Held
at_cell p c (Register r) = slice_get c.home.regs r
at_cell p c (Memory v) = in_spot c (spot p v)
at_cell p c (Fixed n) = Some (Some (Num (word n)))

abbrev pub put_cell : LProc → Activation Cells → Cell → Held → Option (Activation Cells)
put_cell p c (Register r) h =
    if_there (slice_get c.home.regs r) (with_regs c (slice_set c.home.regs r h))
put_cell p c (Memory v) h = if_there (in_spot c (spot p v)) (with_spot c (spot p v) h)
put_cell p c (Fixed n) h = None

-- moves read and write these, and carry what there is, also nothing
abbrev pub holding : LProc → Holding (Activation Cells) Held
holding p = record { at = at_cell p; put = put_cell p }

-- ---- operands

abbrev pub only_if : Bool → List Cell → List Cell
only_if b cells = if b then cells else []

abbrev pub fixed : VarKind → List Cell
fixed (Constant n) = Fixed n ∷ []
fixed _ = []

-- where the value of a variable stands that has this place; a both place is two cells, the register
-- first
abbrev pub cells : LProc → ℕ → ℕ → List Cell
cells p v place =
    only_if (has_register place) (Register (register_of place) ∷ [])
    ++ (only_if (needs_slot place) (Memory v ∷ [])
    ++ only_if (is_const place) (fixed (kind_of p v)))

abbrev pub first_held : LProc → Activation Cells → List Cell → Held
first_held p c [] = None
first_held p c (cell ∷ more) = joined (at_cell p c cell)

-- an operand is the first of the cells of its place
abbrev pub operand : LProc → Activation Cells → ℕ → ℕ → Held
operand p c v place = first_held p c (cells p v place)

-- what the read operands hold
abbrev pub operands : LProc → Activation Cells → List ℕ → List ℕ → List Held
operands p c [] places = []
operands p c (v ∷ vs) [] = None ∷ operands p c vs []
operands p c (v ∷ vs) (q ∷ places) = operand p c v q ∷ operands p c vs places

abbrev pub put_first : LProc → Activation Cells → List Cell → Held → Option (Activation Cells)
put_first p c [] h = None
put_first p c (cell ∷ more) h = put_cell p c cell h

abbrev pub put : LProc → Activation Cells → ℕ → ℕ → Held → Option (Activation Cells)
put p c v place h = put_first p c (cells p v place) h

-- the values go into the written operands one after the other
abbrev pub put_all : LProc → Option (Activation Cells) → List ℕ → List ℕ → List Value →
    Option (Activation Cells)
put_all p None vs places xs = None
put_all p (Some c) [] places xs = Some c
put_all p (Some c) (v ∷ vs) (q ∷ places) (x ∷ xs) = put_all p (put p c v q (Some x)) vs places xs
put_all p (Some c) (v ∷ vs) _ _ = None

-- ---- the machine

-- the registers of the set hold nothing; r is the number of the first of them
abbrev pub cleared : ℕ → ℕ → Words → Words
cleared mask r [] = []
cleared mask r (h ∷ regs) =
    (if nat_eq (bit_at mask r) 1 then None else h) ∷ cleared mask (r + 1) regs

abbrev pub passed : List LInstr → Activation Cells → Activation Cells
passed rest c = record c { home = record c.home { rest = rest } }

-- the registers that the instruction destroys hold nothing behind it
abbrev pub clobbered : VInstr → List LInstr → Activation Cells → Activation Cells
clobbered i rest c = with_regs (passed rest c) (cleared (table i).clobbers 0 c.home.regs)

-- the call behind an instruction: places are those of what it reads, then of what it writes
abbrev pub behind : LProc → VInstr → List ℕ → List LInstr → Activation Cells → List Value →
    Option (Activation Cells)
behind p i places rest c xs =
    put_all p (Some (clobbered i rest c)) (written_by i) (drop (length (read_by i)) places) xs

abbrev pub next_of : LProc → Activation Cells → List LInstr → Next Cells
next_of p c [] = Ends c.home.end
next_of p c (placed.Move m ∷ rest) = Moves (moved (holding p) m (passed rest c))
next_of p c (placed.Op i places ∷ rest) =
    let ps = map number places.items in Instr i (operands p c (read_by i) ps) (behind p i ps rest c)

abbrev pub nothing : ℕ → Words
nothing n = replicate n None

-- at the begin of a call registers, slots and aggregates hold nothing
abbrev pub begun : ℕ → LProc → Words → LBlock → Activation Cells
begun n p args block = record {
  proc = n;
  aggregates = nothing p.aggregates;
  args = args;
  home = record {
    block = 0;
    rest = block.code;
    end = block.end;
    regs = nothing register_count;
    slots = nothing (length p.slots);
  };
}

abbrev pub started : ℕ → LProc → Words → Option LBlock → Option (Activation Cells)
started n p args None = None
started n p args (Some block) = Some (begun n p args block)

abbrev pub begin : ℕ → Option LProc → Words → Option (Activation Cells)
begin n None args = None
begin n (Some p) args = started n p args (slice_get p.blocks 0)

abbrev pub at_block : Activation Cells → ℕ → Option LBlock → Option (Activation Cells)
at_block c b None = None
at_block c b (Some block) =
    Some (record c { home = record c.home { block = b; rest = block.code; end = block.end } })

-- what stands for a block and a procedure past the end: no block of it is there to go to
abbrev pub no_block : LBlock
no_block = record { code = []; end = Jump (record { 0 = 0 }) }

abbrev pub no_proc : LProc
no_proc = record {
  id = record { 0 = 0 };
  args = 0;
  aggregates = 0;
  vars = [];
  slots = [];
  near = true;
  blocks = [];
}

abbrev pub proc_of : List LProc → ℕ → LProc
proc_of procs n = slice_index_or procs n no_proc

abbrev pub shape : List LProc → ℕ → Shape
shape procs n = record { kinds = (proc_of procs n).vars; frame_size = frame_size (proc_of procs n) }

abbrev pub placed_machine : List LProc → Machine Cells
placed_machine procs = record {
  shape = shape procs;
  next = λ c. next_of (proc_of procs c.proc) c c.home.rest;
  begin = λ n args. begin n (slice_get procs n) args;
  jump = λ b c. at_block c b (slice_get (proc_of procs c.proc).blocks b);
}

-- ---- the run of a module

-- the module's body is live, all data holds 0, and no call is tested
abbrev pub start : List LProc → ℕ → List ℤ → State Cells
start procs data_words input =
    let p = proc_of procs 0 in
    let body = begun 0 p [] (slice_index_or p.blocks 0 no_block) in
    first body (replicate data_words (Some (Num 0))) input

-- LRun: what so many steps have come to
abbrev pub lrun : List LProc → ℕ → List ℤ → ℕ → Progress OutEvent RunEnd
lrun procs data_words input m = progress (placed_machine procs) (start procs data_words input) m
