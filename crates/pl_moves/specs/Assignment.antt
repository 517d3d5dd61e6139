-- What pairs of places assign, all at once.
use Rattle.std.specs.Prelude.{◌≡◌, ℕ, ℤ, pos, Bool, true, false, nat_eq, not, ◌&&◌, if◌then◌else◌}
use Rattle.std.specs.Prelude.{List, [], ◌∷◌, Option, Some, None}
use Rattle.std.specs.List.{list_all}
use Rattle.pra_base.specs.declared.ids.Place.{Place}
use Rattle.pra_base.specs.Places.{number, has_register, register_of, needs_slot, is_const}
use Rattle.pl_moves.specs.declared.transfer.Pair.{Pair}
use Rattle.pl_moves.specs.declared.transfer.Move.{Move}
use Rattle.pl_moves.specs.Meaning.{Cell, Register, Memory, Fixed, reg, everywhere, all_moved}

-- ---- which pairs are assigned at once

-- A Constant is in a register or nowhere, any other variable in a register or in its memory.
abbrev pub suits : Option ℤ → ℕ → Bool
suits (Some n) place = not (needs_slot place)
suits None place = not (is_const place)

abbrev pub suits_pair : Pair → Bool
suits_pair p = suits p.constant (number p.from) && suits p.constant (number p.to)

-- both places are in one register
abbrev pub share_register : Place → Place → Bool
share_register a b =
    has_register (number a) && has_register (number b)
    && nat_eq (register_of (number a)) (register_of (number b))

-- two pairs of different variables, with no register in common among their sources and none among
-- their targets
abbrev pub are_apart : Pair → Pair → Bool
are_apart p q =
    not (nat_eq p.var.0 q.var.0)
    && not (share_register p.from q.from) && not (share_register p.to q.to)

-- Each pair's places suit its variable, and any two pairs are apart.
abbrev pub can_move : List Pair → Bool
can_move [] = true
can_move (p ∷ ps) = suits_pair p && list_all (are_apart p) ps && can_move ps

-- ---- the assignment

-- the target has memory, and the source did not
abbrev pub into_memory : Pair → Bool
into_memory p = needs_slot (number p.to) && not (needs_slot (number p.from))

-- The pair fills the register of its target, and the memory of its variable where the target has it
-- and the source did not.
abbrev pub fills : Pair → Cell → Bool
fills p (Register r) = has_register (number p.to) && nat_eq (register_of (number p.to)) r
fills p (Memory v) = into_memory p && nat_eq p.var.0 v
fills p (Fixed n) = false

abbrev pub number_of : Option ℤ → ℤ
number_of (Some n) = n
number_of None = pos 0

-- where the pair's value stands before: in the register, where its source has one
abbrev pub origin : Pair → Cell
origin p =
    if has_register (number p.from) then reg p.from
    else (if needs_slot (number p.from) then Memory p.var.0 else Fixed (number_of p.constant))

-- where that stood which a cell holds afterwards: what no pair fills keeps its own
abbrev pub source : List Pair → Cell → Cell
source [] cell = cell
source (p ∷ ps) cell = if fills p cell then origin p else source ps cell

-- The moves, run one after the other from where each cell holds its own name, leave in each cell
-- the name of its source.
pub record Assigns (moves : List Move) (pairs : List Pair) : Type 0 where
  pub after : Cell → Cell
  pub runs : all_moved everywhere moves (λ cell. cell) ≡ Some after
  pub each : (cell : Cell) → after cell ≡ source pairs cell
