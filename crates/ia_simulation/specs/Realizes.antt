-- When a state of the machine over the bytes of placed code stands for a state of placed code's own
-- machine.
use Rattle.std.specs.Prelude.{◌≡◌, ◌≢◌, ◌⊎◌, ℕ, ℤ, ◌+◌, ◌-◌, ◌*◌, ◌<◌, ◌≤◌, ◌^◌, List, [], ◌∷◌}
use Rattle.std.specs.Prelude.{◌++◌}
use Rattle.std.specs.Prelude.{length, take, drop}
use Rattle.std.specs.Prelude.{slice_get, flat_map, sum_by, Option, Some, None}
use Rattle.std.specs.List.{filter_map}
use Rattle.std.specs.Int.{w32}
use Rattle.std.specs.Int.RustNames.{FitsSigned}
use Rattle.ia_code.specs.declared.image.Image.{Image}
use Rattle.ia_code.specs.Image.{IsImage, max_code_bytes, max_data_words}
use Rattle.ia_code.specs.Listing.{bytes_of_all, AreSound, IsListing}
use Rattle.ia_code.specs.Regions.{code_base}
use Rattle.ia_emit.specs.Code.{size, block_start, entry, code_of}
use Rattle.ia_emit.specs.Emission.{emit}
use Rattle.ia_emit.specs.Operands.{IsSmall, free_register}
use Rattle.ia_emit.specs.Sound.{OffsetsFit}
use Rattle.ia_step.specs.declared.flags.Flags.{Flags}
use Rattle.ia_step.specs.declared.registers.Registers.{Registers}
use Rattle.ia_step.specs.Arithmetic.{diff_flags}
use Rattle.ia_step.specs.Registers.{get}
use Rattle.ia_step.specs.Run.{Ran, advance, run_end}
use Rattle.ia_step.specs.State as machine
use Rattle.pl_place.specs.declared.placed.LBlock.{LBlock}
use Rattle.pl_place.specs.declared.placed.LInstr.{LInstr}
use Rattle.pl_place.specs.declared.placed.LProc.{LProc}
use Rattle.pl_place.specs.Machine.{Cells, shape, proc_of, placed_machine}
use Rattle.pl_place.specs.Placed.{op_of}
use Rattle.pl_place.specs.Valid.{ArePlaced, counts_of, linstr_at}
use Rattle.pra_base.specs.declared.code.End.{End}
use Rattle.pra_base.specs.Places.{register_count}
use Rattle.pra_base.specs.RunEnd.{Wrong}
use Rattle.pra_base.specs.System.{run}
use Rattle.pra_base.specs.Valid.{PushesLead, TakesArgs}
use Rattle.pra_base.specs.Words.{stack_limit}
use Rattle.vc_code.specs.Value.{Words}
use Rattle.vc_code.specs.Machine.{Activation, State, depth, step}
use Rattle.ia_simulation.specs.Frames.{Holds, WordsHold, Stacked, ebp_of, register_held}
use Rattle.ia_simulation.specs.Frames.{frames}

-- ---- what is loaded

-- Valid placed code within the limits, of which each instruction is in the table of bytes, and
-- which is no longer than an image's code may be. The module has so many words of data.
pub record IsLoadable (procs : List LProc) (data_words : ℕ) : Type 0 where
  pub placed : ArePlaced procs
  pub small : (p : ℕ) (code : LProc) → slice_get procs p ≡ Some code → IsSmall code
  pub sound : AreSound (code_of procs)
  pub short : length (bytes_of_all (code_of procs)) ≤ max_code_bytes
  pub few_data : data_words ≤ max_data_words

-- each word of the input is a number of 32 bits
abbrev pub AreWords : List ℤ → Type 0
AreWords [] = Unit {0}
AreWords (n ∷ rest) = FitsSigned w32 n × AreWords rest

-- ---- where a call stands

-- A call of procedure q stands before an instruction of its block, of which the first byte is at
-- this place, or before the block's end. So many pushes stand directly before it.
pub record StandsBefore (procs : List LProc) (q block : ℕ) (rest : List LInstr) (end : End)
    (pushes place : ℕ) : Type 0 where
  pub there : slice_get procs q ≡ Some (proc_of procs q)
  pub code : LBlock
  pub in_block : slice_get (proc_of procs q).blocks block ≡ Some code
  pub index : ℕ
  pub rest_is : rest ≡ drop index code.code
  pub end_is : end ≡ code.end
  pub place_is : place ≡ code_base
      + (block_start (proc_of procs q) (entry procs q) block
      + size (flat_map (emit (proc_of procs q)) (take index code.code)))
  pub pushes_lead : PushesLead (TakesArgs (counts_of procs)) pushes (filter_map op_of rest)

-- a call has the words that its procedure says
pub record HasSizes (p : LProc) (aggregates args slots regs : Words) : Type 0 where
  pub aggregates_long : length aggregates ≡ p.aggregates
  pub args_long : length args ≡ p.args
  pub slots_long : length slots ≡ length p.slots
  pub regs_long : length regs ≡ register_count

-- a waiting call holds nothing in EAX, ECX and EDX, which its callee may change
pub record GivesUp (regs : Words) : Type 0 where
  pub eax : register_held regs 0 ≡ None
  pub ecx : register_held regs 1 ≡ None
  pub edx : register_held regs 2 ≡ None

pub record Waits (procs : List LProc) (c : Activation Cells) (back : ℕ) : Type 0 where
  pub stands : StandsBefore procs c.proc c.home.block c.home.rest c.home.end 0 back
  pub sizes :
      HasSizes (proc_of procs c.proc) c.aggregates c.args c.home.slots c.home.regs
  pub given_up : GivesUp c.home.regs

-- the calls that wait go on at these places
abbrev pub AllWait : List LProc → List (Activation Cells) → List ℕ → Type 0
AllWait procs [] backs = Unit {0}
AllWait procs (c ∷ calls) [] = ⊥
AllWait procs (c ∷ calls) (back ∷ backs) = Waits procs c back × AllWait procs calls backs

-- ---- the relation

-- the machine's registers stand for those of the running call
abbrev pub RegistersHold : Words → Registers → Type 0
RegistersHold regs now =
    (r : ℕ) → r < register_count → Holds (register_held regs r) (get now (free_register r))

-- flags are those of the two numbers that were compared
abbrev pub FlagsTell : Option (ℕ × ℕ) → Flags → Type 0
FlagsTell None flags = Unit {0}
FlagsTell (Some x) flags = (flags ≡ diff_flags x.0 x.1) × (x.0 < 2 ^ 32) × (x.1 < 2 ^ 32)

-- Registers and memory stand for the words of live calls and of the data, where the waiting calls
-- go on at these places.
pub record Lies (procs : List LProc) (backs : List ℕ) (pushed : Words) (top : Activation Cells)
    (below : List (Activation Cells)) (globals : Words) (regs : Registers) (stack storage : List ℕ)
    : Type 0 where
  pub sizes :
      HasSizes (proc_of procs top.proc) top.aggregates top.args top.home.slots top.home.regs
  pub registers : RegistersHold top.home.regs regs
  pub words : Stacked (pushed ++ frames procs backs (top ∷ below)) regs.esp stack
  pub ebp : regs.ebp ≡ ebp_of procs top below
  pub deep : depth (shape procs) (top ∷ below) ≤ stack_limit
  pub globals_hold : WordsHold globals storage 0
  pub data_long : length storage ≡ 4 * length globals
  pub data_few : length globals ≤ max_data_words

-- The machine m goes on from where the running call stands.
pub record Runs (procs : List LProc) (s : State Cells) (m : machine.State) : Type 0 where
  pub backs : List ℕ
  pub code : m.code ≡ bytes_of_all (code_of procs)
  pub stands : StandsBefore procs s.top.proc s.top.home.block s.top.home.rest s.top.home.end
      (length s.pushed) m.eip
  pub waiting : AllWait procs s.below backs
  pub lies : Lies procs backs s.pushed s.top s.below s.globals m.regs m.stack m.storage
  pub flags : FlagsTell s.compared m.flags
  pub input : m.input ≡ s.input
  pub input_fits : AreWords s.input

-- They have done the same, and while placed code is going on, the machine is where it stands.
pub record Realizes (procs : List LProc) (s : State Cells) (r : Ran) : Type 0 where
  pub ending : run_end r.state.ending ≡ s.over
  pub events : r.events ≡ s.events
  pub taken : r.state.taken ≡ s.taken
  pub going : s.over ≡ None → Runs procs s r.state

-- ---- steps

-- A jump to the next block has no instruction, and raises the number of the block. So this falls
-- wherever the machine stands still.
abbrev pub most : List LProc → ℕ
most procs = sum_by (λ (p : LProc). length p.blocks) procs

abbrev pub measure : List LProc → State Cells → ℕ
measure procs s = most procs - s.top.home.block

-- Some steps of the machine lead from r to what stands for the state t, or none, where the measure
-- falls from s to t.
abbrev pub Leads : List LProc → State Cells → Ran → State Cells → Type 0
Leads procs s r t =
    (k : ℕ) × ((0 < k) ⊎ (measure procs t < measure procs s)) × Realizes procs t (run advance k r)

-- the next step of placed code is led to, where it is not stuck
abbrev pub StepLeads : List LProc → State Cells → Ran → Type 0
StepLeads procs s r =
    (step (placed_machine procs) s).over ≢ Some Wrong
    → Leads procs s r (step (placed_machine procs) s)

-- Wherever the machine stands for placed code that stands before this instruction, its step is led
-- to.
abbrev pub IsCarried : LInstr → Type 0
IsCarried i =
    (procs : List LProc) (data_words : ℕ) → IsLoadable procs data_words →
    (s : State Cells) (r : Ran) → Realizes procs s r → s.over ≡ None →
    (more : List LInstr) → s.top.home.rest ≡ i ∷ more → StepLeads procs s r

-- the same of a block's end, where nothing stands before it
abbrev pub EndIsCarried : End → Type 0
EndIsCarried e =
    (procs : List LProc) (data_words : ℕ) → IsLoadable procs data_words →
    (s : State Cells) (r : Ran) → Realizes procs s r → s.over ≡ None →
    s.top.home.rest ≡ [] → s.top.home.end ≡ e → StepLeads procs s r

-- each instruction of the procedures is carried
abbrev pub EachIsCarried : List LProc → Type 0
EachIsCarried procs =
    (q : ℕ) (p : LProc) → slice_get procs q ≡ Some p →
    (b k : ℕ) (i : LInstr) → linstr_at p b k i → IsCarried i

-- ---- images

-- The image is what the assembler makes of valid placed code: it is valid, and its bytes are those
-- of the code's instructions. The module has so many words of data, and offsets have 32 bits.
pub record IsLoaded (procs : List LProc) (data_words : ℕ) (image : Image) : Type 0 where
  pub placed : ArePlaced procs
  pub small : (p : ℕ) (code : LProc) → slice_get procs p ≡ Some code → IsSmall code
  pub offsets : OffsetsFit procs
  pub valid : IsImage image
  pub listing : IsListing image.code (code_of procs)
  pub words_are : image.data_words ≡ data_words
