-- The code of a module: the instructions of its procedures one behind the other, behind the start
-- and the stubs of the traps. Places are counted in bytes from the first one of the code. A jump or
-- a call has the distance from the instruction behind it (SDM volume 2, JMP, Jcc and CALL).
use Rattle.std.specs.Prelude.{◌≡◌, ℕ, ◌+◌, ℤ, pos, ◌-ℤ◌, List, [], ◌∷◌, ◌++◌, length, take}
use Rattle.std.specs.List.{sum_by}
use Rattle.std.specs.Int.{w32, int_wrap}
use Rattle.ia_code.specs.declared.ins.Ins.{Ins}
use Rattle.ia_code.specs.declared.ins.Ins.TheVariants as ins
use Rattle.ia_code.specs.declared.ins.Reg.TheVariants.{Eax}
use Rattle.ia_code.specs.declared.services.Service.TheVariants as service
use Rattle.ia_code.specs.DecodeTable.{bytes_of}
use Rattle.ia_code.specs.Services.{trap_number}
use Rattle.ia_emit.specs.declared.item.Item.{Item}
use Rattle.ia_emit.specs.declared.item.Item.TheVariants.{Plain, Jump, Branch, Call}
use Rattle.ia_emit.specs.declared.item.Target.{Target}
use Rattle.ia_emit.specs.declared.item.Target.TheVariants.{Block, Stub}
use Rattle.ia_emit.specs.Emission.{call_service, prologue, emit_blocks, emit_proc}
use Rattle.pl_place.specs.declared.placed.LProc.{LProc}
use Rattle.pra_base.specs.declared.event.TrapKind.{TrapKind}
use Rattle.pra_base.specs.declared.event.TrapKind.TheVariants.{Index, Divide, Stack}

-- ---- sizes, which do not depend on distances

abbrev pub size_of : Item → ℕ
size_of (Plain i) = length (bytes_of i)
size_of (Jump t) = 5
size_of (Branch c t) = 6
size_of (Call q) = 5

abbrev pub size : List Item → ℕ
size items = sum_by size_of items

-- these items stand in the list, behind so many bytes
pub record StandsAt (all : List Item) (at : ℕ) (items : List Item) : Type 0 where
  pub before : List Item
  pub behind : List Item
  pub parts : all ≡ before ++ items ++ behind
  pub place : size before ≡ at

-- ---- distances

-- from behind an instruction to a place
abbrev pub distance : ℕ → ℕ → ℤ
distance behind to = int_wrap w32 (pos to -ℤ pos behind)

-- the instruction that ends at this place, where targets and procedures begin at these
abbrev pub aimed : (Target → ℕ) → (ℕ → ℕ) → ℕ → Item → Ins
aimed target entry behind (Plain i) = i
aimed target entry behind (Jump t) = ins.Jmp (distance behind (target t))
aimed target entry behind (Branch c t) = ins.Jcc c (distance behind (target t))
aimed target entry behind (Call q) = ins.Call (distance behind (entry q.0))

-- the instructions of a list whose first one begins at this place
abbrev pub all_aimed : (Target → ℕ) → (ℕ → ℕ) → ℕ → List Item → List Ins
all_aimed target entry at [] = []
all_aimed target entry at (i ∷ is) =
    aimed target entry (at + size_of i) i ∷ all_aimed target entry (at + size_of i) is

-- ---- places

-- the code of a trap: its number goes into EAX, then the host is called
abbrev pub stub : TrapKind → List Item
stub trap = Plain (ins.MovRI Eax (pos (trap_number trap))) ∷ call_service service.Trap ∷ []

-- what stands before the procedures: the body is called, then the program ends
abbrev pub front : List Item
front =
    Call (record { 0 = 0 }) ∷ call_service service.End ∷ stub Index ++ stub Divide ++ stub Stack

abbrev pub stub_start : TrapKind → ℕ
stub_start Index = 7
stub_start Divide = 14
stub_start _ = 21

-- where block b begins in a procedure that begins at this place
abbrev pub block_start : LProc → ℕ → ℕ → ℕ
block_start p at b = at + size (prologue p) + size (emit_blocks p 0 (take b p.blocks))

abbrev pub target_in : LProc → ℕ → Target → ℕ
target_in p at (Block b) = block_start p at b.0
target_in p at (Stub trap) = stub_start trap

-- the first procedure begins behind the stubs
abbrev pub first_entry : ℕ
first_entry = 28

-- where procedure k begins
abbrev pub entry : List LProc → ℕ → ℕ
entry procs k = first_entry + sum_by (λ p. size (emit_proc p)) (take k procs)

-- how many bytes the code of procedures has
abbrev pub code_size : List LProc → ℕ
code_size procs = first_entry + sum_by (λ p. size (emit_proc p)) procs

-- ---- the whole

-- the instructions of procedures, the first of which begins at this place
abbrev pub code_from : (ℕ → ℕ) → ℕ → List LProc → List Ins
code_from entry at [] = []
code_from entry at (p ∷ ps) =
    all_aimed (target_in p at) entry at (emit_proc p)
    ++ code_from entry (at + size (emit_proc p)) ps

-- all instructions, where procedures begin at these places
abbrev pub code_with : (ℕ → ℕ) → List LProc → List Ins
code_with entry procs = all_aimed (λ t. 0) entry 0 front ++ code_from entry first_entry procs

abbrev pub code_of : List LProc → List Ins
code_of procs = code_with (entry procs) procs
