-- How placed code is read.
use Rattle.std.specs.Prelude.{ℕ, ◌+◌, ◌*◌, nat_eq, List, length, map, position, slice_index_or}
use Rattle.std.specs.Prelude.{Option, Some, None}
use Rattle.std.specs.List.{filter_map}
use Rattle.pra_base.specs.declared.ids.Place.{Place}
use Rattle.pra_base.specs.declared.ids.Place.TheVariants.{Eax}
use Rattle.pra_base.specs.declared.code.VarKind.{VarKind}
use Rattle.pra_base.specs.declared.code.VarKind.TheVariants.{Plain}
use Rattle.pra_base.specs.declared.code.VInstr.{VInstr}
use Rattle.pra_base.specs.declared.code.Block.{Block}
use Rattle.pra_base.specs.Places.{number}
use Rattle.pl_place.specs.declared.placed.LInstr.{LInstr}
use Rattle.pl_place.specs.declared.placed.LInstr.TheVariants.{Move, Op}
use Rattle.pl_place.specs.declared.placed.LBlock.{LBlock}
use Rattle.pl_place.specs.declared.placed.LProc.{LProc}

-- bytes: the arguments, the return address and the four saved registers, the aggregates and the
-- slots
abbrev pub frame_size : LProc → ℕ
frame_size p = 4 * (p.args + 5 + p.aggregates + length p.slots)

abbrev pub kind_of : LProc → ℕ → VarKind
kind_of p v = slice_index_or p.vars v Plain

-- which slot a variable has
abbrev pub slot_of : LProc → ℕ → Option ℕ
slot_of p v = position (λ u. nat_eq u.0 v) p.slots

-- the place of operand k
abbrev pub place_in : List Place → ℕ → ℕ
place_in places k = number (slice_index_or places k Eax)

-- ---- with moves left out

abbrev pub op_of : LInstr → Option VInstr
op_of (Move m) = None
op_of (Op i places) = Some i

abbrev pub bare_block : LBlock → Block
bare_block b = record { depth = 0; code = filter_map op_of b.code; end = b.end }

abbrev pub bare : LProc → List Block
bare p = map bare_block p.blocks
