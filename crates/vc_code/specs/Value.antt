-- Values and objects, as the machines of selected and of placed code have them alike.
use Rattle.std.specs.Prelude.{ℕ, ℤ, pos, Bool, ◌&&◌, int_lt, int_le, List, Option}
use Rattle.pra_base.specs.Words.{signed}
use Rattle.vc_code.specs.declared.value.Value.{Value}

-- what a register, a slot, a variable or a word has; None holds nothing
abbrev pub Held : Type 0
Held = Option Value

-- the words of an object
abbrev pub Words : Type 0
Words = List Held

-- 0 <= i < n, as signed numbers
abbrev pub is_index : ℕ → ℤ → Bool
is_index i n = int_le (pos 0) (signed i) && int_lt (signed i) n
