-- Where the instructions and blocks of a procedure stand, as tables.
use Rattle.std.specs.Prelude.{◌≡◌, ℕ, ◌+◌, List, ◌++◌, length, take, slice_index_or}
use Rattle.ia_emit.specs.declared.item.Item.{Item}
use Rattle.ia_emit.specs.Emission.{prologue, emit_blocks, emit_proc}
use Rattle.ia_emit.specs.Code.{size}
use Rattle.pl_place.specs.declared.placed.LProc.{LProc}

-- how many instructions stand in front of block b
abbrev pub in_front : LProc → ℕ → ℕ
in_front p b = length (prologue p ++ emit_blocks p 0 (take b p.blocks))

-- the number of the first instruction of each block; behind the last block that of all
abbrev pub AreFirst : LProc → List ℕ → Type 0
AreFirst p first = (b : ℕ) → slice_index_or first b (length (emit_proc p)) ≡ in_front p b

-- where each instruction stands, if the first one stands at this place, and where they end
abbrev pub ArePlaces : List Item → ℕ → List ℕ → ℕ → Type 0
ArePlaces items at places end = (k : ℕ) → slice_index_or places k end ≡ at + size (take k items)
