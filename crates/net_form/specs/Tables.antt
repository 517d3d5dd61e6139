-- What depends on which places there are: the masks of operands, the places of a variable, what an
-- operand in memory or an immediate costs, and what a way between two places costs. Networks and
-- costs are made from one such record.
use Rattle.std.specs.Prelude.{ℕ, ℤ, pos, negsuc, Bool, nat_le, if◌then◌else◌, List, Option, Some}
use Rattle.std.specs.Prelude.{None, ◌&&◌}
use Rattle.pra_base.specs.declared.ids.Place.{Place}
use Rattle.pra_base.specs.declared.code.VarKind.{VarKind}
use Rattle.pra_base.specs.declared.code.VarKind.TheVariants.{Constant}
use Rattle.pra_base.specs.declared.code.VInstr.{VInstr}
use Rattle.pra_base.specs.declared.code.VInstr.TheVariants.{Set, Copy, Add, Sub, And, Or, Xor, Mul}
use Rattle.pra_base.specs.declared.code.VInstr.TheVariants.{Neg, Shift, Cmp, CmpSet, DivMod, Check}
use Rattle.pra_base.specs.declared.code.VInstr.TheVariants.{CheckPos, Store, Push}
use Rattle.pra_base.specs.Operands.{Row, operands, own_places}
use Rattle.net_cost.specs.declared.event.Event.{Event}
use Rattle.net_cost.specs.declared.event.Event.TheVariants.{E6, E7, E8, E9, E10, E11, E12}
use Rattle.pl_moves.specs.Crossbar.{crossbar, only_if, constant_event as constant_move}
use Rattle.pra_base.specs.Places.{number, has_register}

-- what an operand of an instruction costs more than a register: in memory, near and far, and as an
-- immediate of 8 and of 32 bits
pub record Columns : Type 0 where
  pub near : Option Event
  pub far : Option Event
  pub short : Option Event
  pub long : Option Event

abbrev pub columns : Option Event → Option Event → Option Event → Option Event → Columns
columns near far short long = record { near = near; far = far; short = short; long = long }

abbrev pub no_columns : Columns
no_columns = columns None None None None

-- v op= s, and a compared with b
abbrev pub arithmetic : Columns
arithmetic = columns (Some E6) (Some E7) (Some E10) (Some E11)

-- an operand that is never an immediate
abbrev pub operand : Columns
operand = columns (Some E6) (Some E7) None None

--                                  near      far       short      long
abbrev pub extra_columns : VInstr → Columns
extra_columns (Set v n) = columns (Some E8) (Some E9) None None
extra_columns (Copy v s) = operand
extra_columns (Add v s) = arithmetic
extra_columns (Sub v s) = arithmetic
extra_columns (And v s) = arithmetic
extra_columns (Or v s) = arithmetic
extra_columns (Xor v s) = arithmetic
extra_columns (Mul v s) = columns (Some E6) (Some E7) None (Some E12)
extra_columns (Neg v) = operand
extra_columns (Shift op v n) = operand
extra_columns (Cmp a b) = arithmetic
extra_columns (CmpSet c v a b) = arithmetic
extra_columns (DivMod q r a d) = operand
extra_columns (Check i n) = operand
extra_columns (CheckPos d) = operand
extra_columns (Store a s) = columns None None (Some E11) (Some E11)
extra_columns (Push s) = columns (Some E8) (Some E9) (Some E11) (Some E11)
extra_columns _ = no_columns

-- the number fits the 8 bits of a short immediate
abbrev pub is_short : ℤ → Bool
is_short (pos n) = nat_le n 127
is_short (negsuc n) = nat_le n 127

-- what the variable costs in memory, and as an immediate
abbrev pub memory_event : Bool → Columns → Option Event
memory_event near c = if near then c.near else c.far

abbrev pub constant_event : VarKind → Columns → Option Event
constant_event (Constant n) c = if is_short n then c.short else c.long
constant_event _ c = None

-- the way between two places
abbrev pub way : Bool → Place → Place → List ℕ
way near p q = crossbar near (number p) (number q)

-- where a strand begins, a constant is made; any other value is there
abbrev pub begun : Bool → Place → List ℕ
begun constant q = only_if (constant && has_register (number q)) constant_move

pub record PlaceTables : Type 0 where
  -- the masks of an instruction's roles, and the registers that it destroys
  pub row : VInstr → Row
  -- a variable's own places
  pub own : VarKind → ℕ
  pub extras : VInstr → Columns
  -- the events, by their numbers, of going from a place to a place, in near code or not
  pub crossbar : Bool → Place → Place → List ℕ
  -- and of beginning at a place, for a constant or not
  pub begun : Bool → Place → List ℕ

-- the tables of the fourteen places
abbrev pub all_tables : PlaceTables
all_tables = record {
  row = operands;
  own = own_places;
  extras = extra_columns;
  crossbar = way;
  begun = begun;
}
