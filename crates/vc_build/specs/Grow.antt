-- Code under construction: blocks that are still open, the four changes that are made to code, and
-- what later code has of earlier code.
use Rattle.std.specs.Prelude.{◌≡◌, ◌≢◌, ℕ, suc, ◌<◌, ◌≤◌, Bool, false, nat_eq, List}
use Rattle.std.specs.Prelude.{[], ◌∷◌, ◌++◌, length, count_by, slice_set}
use Rattle.pra_base.specs.Code.{kind_of, block_of, code_of, end_of}
use Rattle.pra_base.specs.declared.code.VarKind.{VarKind}
use Rattle.pra_base.specs.declared.code.VInstr.{VInstr}
use Rattle.pra_base.specs.declared.code.End.{End}
use Rattle.pra_base.specs.declared.code.End.TheVariants.{Jump}
use Rattle.pra_base.specs.declared.code.Block.{Block}
use Rattle.pra_base.specs.declared.code.VProc.{VProc}

abbrev pub count : VProc → ℕ
count code = length code.blocks

-- The end of a block that is still open. No finished code has it, since block 0 is the target of no
-- end.
abbrev pub stand_in : End
stand_in = Jump (record { 0 = 0 })

abbrev pub IsOpen : VProc → ℕ → Type 0
IsOpen code b = (b < count code) × (end_of code b ≡ stand_in)

-- ---- the changes

abbrev pub with_block : ℕ → Block → VProc → VProc
with_block b block code = record code { blocks = slice_set code.blocks b block }

-- one more instruction in a block
abbrev pub with_instr : ℕ → VInstr → VProc → VProc
with_instr b i code =
    with_block b (record {
      depth = (block_of code b).depth;
      code = code_of code b ++ i ∷ [];
      end = end_of code b;
    }) code

-- another end of a block
abbrev pub with_end : ℕ → End → VProc → VProc
with_end b end code =
    with_block b
    (record { depth = (block_of code b).depth; code = code_of code b; end = end }) code

-- a block without instructions, at a depth of loops
abbrev pub open_block : ℕ → Block
open_block depth = record { depth = depth; code = []; end = stand_in }

-- one more block, and one more variable
abbrev pub with_open_block : ℕ → VProc → VProc
with_open_block depth code = record code { blocks = code.blocks ++ open_block depth ∷ [] }

abbrev pub with_variable : VarKind → VProc → VProc
with_variable kind code = record code { vars = code.vars ++ kind ∷ [] }

-- ---- how code grows

-- An open block may be longer later; a closed one stays as it is.
pub record Kept (old new : Block) : Type 0 where
  pub depth : new.depth ≡ old.depth
  pub more : List VInstr
  pub code : new.code ≡ old.code ++ more
  pub closed : old.end ≢ stand_in → new ≡ old

-- Later code has the variables of earlier code, and keeps its blocks.
pub record Grows (old new : VProc) : Type 0 where
  pub id : new.id ≡ old.id
  pub args : new.args ≡ old.args
  pub aggregates : new.aggregates ≡ old.aggregates
  pub kinds : (v : ℕ) → v < length old.vars → kind_of new v ≡ kind_of old v
  pub vars : length old.vars ≤ length new.vars
  pub blocks : count old ≤ count new
  pub kept : (b : ℕ) → b < count old → Kept (block_of old b) (block_of new b)

-- Of the blocks that the code had only this one is another.
pub record GrowsAt (from : ℕ) (old new : VProc) : Type 0 where
  pub grows : Grows old new
  pub others : (b : ℕ) → b < count old → b ≢ from → block_of new b ≡ block_of old b

-- ---- how many blocks are open

abbrev pub is_stand_in : End → Bool
is_stand_in (Jump b) = nat_eq b.0 0
is_stand_in _ = false

abbrev pub is_open : Block → Bool
is_open block = is_stand_in block.end

abbrev pub open_blocks : VProc → ℕ
open_blocks code = count_by is_open code.blocks

-- One block that was open is closed.
pub record ClosesOne (old new : VProc) : Type 0 where
  pub one_less : suc (open_blocks new) ≡ open_blocks old

-- The block `to` is open in place of the block `from`, and as many blocks are open as before. If
-- the entry was open only as the only block, so it is still.
pub record HandsOn (from to : ℕ) (old new : VProc) : Type 0 where
  pub as_many : open_blocks new ≡ open_blocks old
  pub entry : (from ≡ 0 → count old ≡ 1) → to ≡ 0 → count new ≡ 1
