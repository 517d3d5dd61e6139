-- The tables of eight places, without the both places: a value is in a register or in memory, and
-- never in both at once. A network of plain spilling is made from them.
use Rattle.std.specs.Prelude.{ℕ, Bool, nat_eq, not, ◌&&◌, if◌then◌else◌, List, [], ◌∷◌, map}
use Rattle.pra_base.specs.declared.ids.Place.{Place}
use Rattle.pra_base.specs.declared.code.VarKind.{VarKind}
use Rattle.pra_base.specs.declared.code.VInstr.{VInstr}
use Rattle.pra_base.specs.Operands.{Role, Row, operands, own_places}
use Rattle.pra_base.specs.Places.{number, is_register, is_mem, is_both, mask_where, meet}
use Rattle.pl_moves.specs.Crossbar.{register_event, load_event, store_event, only_if}
use Rattle.pl_moves.specs.Crossbar.{constant_event}
use Rattle.net_form.specs.Tables.{PlaceTables, extra_columns}

-- the six registers, memory, and the constant itself
abbrev pub eight_places : ℕ
eight_places = mask_where (λ p. not (is_both p))

abbrev pub in_eight : Role → Role
in_eight role = record role { mask = meet role.mask eight_places }

abbrev pub eight_row : VInstr → Row
eight_row i =
    let row = operands i in record {
      reads = map in_eight row.reads;
      writes = map in_eight row.writes;
      clobbers = row.clobbers;
    }

abbrev pub eight_own : VarKind → ℕ
eight_own kind = meet (own_places kind) eight_places

-- into a register: from another one, out of memory, or as a number
abbrev pub fills : Bool → ℕ → ℕ → List ℕ
fills near p q =
    if is_register p then only_if (not (nat_eq p q)) register_event
    else (if is_mem p then load_event near ∷ [] else constant_event ∷ [])

abbrev pub eight_way : Bool → Place → Place → List ℕ
eight_way near p q =
    if is_register (number q) then fills near (number p) (number q)
    else only_if (is_mem (number q) && not (is_mem (number p))) (store_event near)

abbrev pub eight_begun : Bool → Place → List ℕ
eight_begun constant q = only_if (constant && is_register (number q)) constant_event

abbrev pub eight_tables : PlaceTables
eight_tables = record {
  row = eight_row;
  own = eight_own;
  extras = extra_columns;
  crossbar = eight_way;
  begun = eight_begun;
}
