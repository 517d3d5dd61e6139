-- When placed code corresponds to selected code: what a placement has to give of each procedure, so
-- that the machine of placed code does what that of selected code does. Nothing here speaks of
-- runs.
use Rattle.std.specs.Prelude.{◌≡◌, ◌≢◌, ℕ, suc, ◌<◌, ◌⊎◌, Bool, false, nat_eq, List, [], ◌∷◌}
use Rattle.std.specs.Prelude.{◌++◌}
use Rattle.std.specs.Prelude.{length, map, drop, slice_get, Option, Some}
use Rattle.std.specs.Int.{bit_at}
use Rattle.pra_list.specs.Among.{Among}
use Rattle.pra_list.specs.Each.{Each}
use Rattle.pra_base.specs.declared.ids.Place.TheVariants.{Mem, Const}
use Rattle.pra_base.specs.declared.code.VarKind.TheVariants.{Param}
use Rattle.pra_base.specs.declared.code.VInstr.{VInstr}
use Rattle.pra_base.specs.declared.code.VProc.{VProc}
use Rattle.pra_base.specs.Code.{code_of, instr_at, end_of, IsTarget}
use Rattle.pra_base.specs.Operands.{table, read_by, written_by}
use Rattle.pra_base.specs.Places.{number, register_count}
use Rattle.pra_base.specs.Valid.{PushesBeforeCalls, TakesArgs, counts_of}
use Rattle.vc_code.specs.Value.{Held}
use Rattle.vc_code.specs.Selected.{valued}
use Rattle.pl_moves.specs.declared.transfer.Move.{Move}
use Rattle.pl_moves.specs.declared.transfer.Move.TheVariants as move
use Rattle.pl_moves.specs.declared.transfer.Pair.{Pair}
use Rattle.pl_moves.specs.Meaning.{Cell, Register, Memory, Fixed, same_cell, reg}
use Rattle.pl_moves.specs.Assignment.{source, Assigns}
use Rattle.pl_place.specs.declared.placed.LInstr.{LInstr}
use Rattle.pl_place.specs.declared.placed.LInstr.TheVariants as placed
use Rattle.pl_place.specs.declared.placed.LBlock.{LBlock}
use Rattle.pl_place.specs.declared.placed.LProc.{LProc}
use Rattle.pl_place.specs.Placed.{kind_of}
use Rattle.pl_place.specs.Machine.{Spot, Slot, Argument, Nowhere, spot, cells}

-- the place of each variable that is present, by numbers
abbrev pub Allocation : Type 0
Allocation = ℕ → Option ℕ

-- ---- cells of a frame

abbrev pub InFrame : LProc → Spot → Type 0
InFrame p (Slot k) = k < length p.slots
InFrame p (Argument i) = i < p.args
InFrame p Nowhere = ⊥

-- each call of the procedure has the cell
abbrev pub IsCell : LProc → Cell → Type 0
IsCell p (Register r) = r < register_count
IsCell p (Memory v) = InFrame p (spot p v)
IsCell p (Fixed n) = ⊥

-- ---- moves

abbrev pub InCells : LProc → Move → Type 0
InCells p (move.Copy r q) = IsCell p (reg r) × IsCell p (reg q)
InCells p (move.Swap r q) = IsCell p (reg r) × IsCell p (reg q)
InCells p (move.Load r v) = IsCell p (reg r) × IsCell p (Memory v.0)
InCells p (move.Store v r) = IsCell p (Memory v.0) × IsCell p (reg r)
InCells p (move.Set r n) = IsCell p (reg r)

-- a variable comes from its place, or from its number, if it is a Constant
abbrev pub ComesFrom : Allocation → ℕ → ℕ → Type 0
ComesFrom before v from = (before v ≡ Some from) ⊎ (from ≡ number Const)

-- what each cell of the variable's place gets is what a cell held where the variable comes from
pub record Brings (p : LProc) (pairs : List Pair) (before : Allocation) (v place : ℕ) : Type 0 where
  pub some : cells p v place ≢ []
  pub from : ℕ
  pub comes : ComesFrom before v from
  pub each : Each (λ cell. Among (source pairs cell) (cells p v from)) (cells p v place)

-- The moves are the simultaneous assignment of pairs, within the frame, and bring each present
-- variable from its place in the one allocation to its place in the other.
pub record Transfers (p : LProc) (ms : List Move) (before after : Allocation) : Type 0 where
  pub in_cells : Each (InCells p) ms
  pub pairs : List Pair
  pub assigns : Assigns ms pairs
  pub brings : (v place : ℕ) → after v ≡ Some place → Brings p pairs before v place

-- ---- an instruction

-- the read operands are at the places of the allocation
abbrev pub AllRead : Allocation → List ℕ → List ℕ → Type 0
AllRead at [] places = Unit {0}
AllRead at (v ∷ vs) [] = ⊥
AllRead at (v ∷ vs) (q ∷ places) = (at v ≡ Some q) × AllRead at vs places

-- A variable is written at its place in the allocation, which is one cell; no other present
-- variable has it, and the variable is no Constant.
pub record Written (p : LProc) (at : Allocation) (w place : ℕ) : Type 0 where
  pub at_place : at w ≡ Some place
  pub cell : Cell
  pub one : cells p w place ≡ cell ∷ []
  pub is_cell : IsCell p cell
  pub varies : (x : Held) → valued (kind_of p w) x ≡ x
  pub apart : (v q : ℕ) → at v ≡ Some q → v ≢ w →
      Each (λ other. same_cell other cell ≡ false) (cells p v q)

abbrev pub AllWritten : LProc → Allocation → List ℕ → List ℕ → Type 0
AllWritten p at [] places = Unit {0}
AllWritten p at (w ∷ ws) [] = ⊥
AllWritten p at (w ∷ ws) (q ∷ places) = Written p at w q × AllWritten p at ws places

abbrev pub is_destroyed : ℕ → Cell → Bool
is_destroyed mask (Register r) = nat_eq (bit_at mask r) 1
is_destroyed mask _ = false

-- the variable is at the same place before the instruction, out of the registers that it destroys
pub record Stays (p : LProc) (i : VInstr) (before : Allocation) (v place : ℕ) : Type 0 where
  pub same : before v ≡ Some place
  pub kept : Each (λ cell. is_destroyed (table i).clobbers cell ≡ false) (cells p v place)

-- The operands are where the allocations before and after the instruction have them, and what else
-- is present after it stays.
pub record FitsAt (p : LProc) (i : VInstr) (places : List ℕ) (before after : Allocation) :
    Type 0 where
  pub reads : AllRead before (read_by i) places
  pub writes : AllWritten p after (written_by i) (drop (length (read_by i)) places)
  pub stays : (v q : ℕ) → after v ≡ Some q →
      Among v (written_by i) ⊎ Stays p i before v q

-- ---- a procedure

abbrev pub IsOpAt : LInstr → VInstr → List ℕ → Type 0
IsOpAt (placed.Op j ps) i places = (j ≡ i) × (map number ps.items ≡ places)
IsOpAt (placed.Move m) i places = ⊥

-- What is left of a block before an instruction: moves, the instruction with its places, and the
-- rest.
pub record InstrCorresponds (p : LProc) (i : VInstr) (left rest : List LInstr)
    (from to : Allocation) : Type 0 where
  pub moves : List Move
  pub op : LInstr
  pub places : List ℕ
  pub parts : left ≡ map placed.Move moves ++ op ∷ rest
  pub is_op : IsOpAt op i places
  pub at : Allocation
  pub transfers : Transfers p moves from at
  pub fits : FitsAt p i places at to

-- What is left before the end: moves.
pub record EndCorresponds (p : LProc) (left : List LInstr) (from to : Allocation) : Type 0 where
  pub moves : List Move
  pub parts : left ≡ map placed.Move moves
  pub transfers : Transfers p moves from to

-- a Param comes in its argument's cell, and nothing else is present at the entry
pub record Comes (p : LProc) (v place : ℕ) : Type 0 where
  pub argument : ℕ
  pub param : kind_of p v ≡ Param argument
  pub in_memory : place ≡ number Mem
  pub in_range : argument < p.args

-- The procedure of placed code corresponds to the selected code: allocations before the moves in
-- front of each instruction and each end, what is left of the block there, and the allocation at
-- each exit.
pub record Corresponds (code : VProc) (p : LProc) : Type 0 where
  pub before : ℕ → ℕ → Allocation
  pub exit : ℕ → Allocation
  pub rest : ℕ → ℕ → List LInstr
  pub vars : p.vars ≡ code.vars
  pub aggregates : p.aggregates ≡ code.aggregates
  pub args : p.args ≡ code.args
  pub params_apart : (v w i : ℕ) → kind_of p v ≡ Param i → kind_of p w ≡ Param i → v ≡ w
  pub instrs : (b k : ℕ) (i : VInstr) → instr_at code b k ≡ Some i →
      InstrCorresponds p i (rest b k) (rest b (suc k)) (before b k) (before b (suc k))
  pub ends : (b : ℕ) → b < length code.blocks → let n = length (code_of code b) in
      EndCorresponds p (rest b n) (before b n) (exit b)
  pub entry : (v place : ℕ) → before 0 0 v ≡ Some place → Comes p v place
  pub targets : (b t : ℕ) → b < length code.blocks → IsTarget (end_of code b) t →
      t < length code.blocks
  pub blocks : (t : ℕ) → t < length code.blocks →
      (block : LBlock) × (slice_get p.blocks t ≡ Some block) × (block.code ≡ rest t 0)
      × (block.end ≡ end_of code t)
  pub ties : (b t : ℕ) → b < length code.blocks → IsTarget (end_of code b) t →
      (v place : ℕ) → before t 0 v ≡ Some place → exit b v ≡ Some place

-- The procedures of a module together: each corresponds and has a first block, and each Call has as
-- many pushes as its procedure has parameters.
pub record AllCorrespond (codes : List VProc) (procs : List LProc) : Type 0 where
  pub count : length procs ≡ length codes
  pub each : (n : ℕ) (code : VProc) (p : LProc) →
      slice_get codes n ≡ Some code → slice_get procs n ≡ Some p → Corresponds code p
  pub entry_blocks : (n : ℕ) (code : VProc) → slice_get codes n ≡ Some code →
      0 < length code.blocks
  pub pushes : (n : ℕ) (code : VProc) → slice_get codes n ≡ Some code →
      PushesBeforeCalls (TakesArgs (counts_of codes)) code.blocks
  pub body : TakesArgs (counts_of codes) 0 0
