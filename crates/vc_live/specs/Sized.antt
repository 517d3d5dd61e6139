-- The parts of what sized code is: facts of one instruction, of one end, and of a list of
-- instructions.
use Rattle.std.specs.Prelude.{◌≡◌, ℕ, ◌<◌, List, Option, Some, slice_get, option_and_then}
use Rattle.pra_base.specs.declared.code.VInstr.{VInstr}
use Rattle.pra_base.specs.declared.code.End.{End}
use Rattle.pra_base.specs.Code.{IsTarget, address_of, cell_of}
use Rattle.pra_base.specs.Valid.{Names, NamesCell}

-- a fact about every instruction of a block
abbrev pub Each : List VInstr → (VInstr → Type 0) → Type 0
Each instrs P = (k : ℕ) (i : VInstr) → slice_get instrs k ≡ Some i → P i

-- the instruction names variables below the count alone
abbrev pub NamesBelow : ℕ → VInstr → Type 0
NamesBelow count i = (v : ℕ) → Names i v → v < count

-- the argument in whose cell the instruction's address begins
abbrev pub named_cell : VInstr → Option ℕ
named_cell i = option_and_then (λ a. cell_of a.base) (address_of i)

-- an argument whose cell the instruction's address begins in is below the count
abbrev pub CellsBelow : ℕ → VInstr → Type 0
CellsBelow count i = (k : ℕ) → NamesCell i k → k < count

-- the end leads to blocks below the count alone
abbrev pub TargetsBelow : ℕ → End → Type 0
TargetsBelow count end = (t : ℕ) → IsTarget end t → t < count
