-- Operands of placed code as operands of the machine: where a variable's own memory is in the frame
-- of the running call, what stands at a place, and the address of an object's word.
--
-- From EBP on, in bytes: argument i of n at 8 + 4 * (n - 1 - i), the return address at 4, the saved
-- EBP at 0, the saved EBX, ESI and EDI below it, slot k at -16 - 4 * k, and below all slots the
-- aggregate words, the last one next to them. The stack is addressed as in SDM volume 1, section 6.
use Rattle.std.specs.Prelude.{◌≡◌, ◌≤◌, ℕ, ◌+◌, ◌-◌, ◌*◌, ℤ, pos, neg_ℤ, ◌+ℤ◌, ◌-ℤ◌, Bool, ◌&&◌}
use Rattle.std.specs.Prelude.{if◌then◌else◌}
use Rattle.std.specs.Prelude.{List, [], ◌∷◌, length, slice_get, slice_index_or, Option, Some, None}
use Rattle.std.specs.Prelude.{int_le}
use Rattle.std.specs.Int.{w32, int_wrap}
use Rattle.ia_code.specs.declared.ins.Reg.{Reg}
use Rattle.ia_code.specs.declared.ins.Reg.TheVariants.{Eax, Ecx, Edx, Ebx, Ebp, Esi, Edi}
use Rattle.ia_code.specs.declared.ins.Width.{Width}
use Rattle.ia_code.specs.declared.ins.Width.TheVariants.{D0, D8, D32}
use Rattle.ia_code.specs.declared.ins.MemAddr.{MemAddr}
use Rattle.ia_code.specs.Regions.{data_base}
use Rattle.ia_emit.specs.declared.item.Operand.{Operand}
use Rattle.ia_emit.specs.declared.item.Operand.TheVariants.{Register, Memory, Number}
use Rattle.pl_place.specs.declared.placed.LProc.{LProc}
use Rattle.pl_place.specs.Placed.{kind_of}
use Rattle.pl_place.specs.Machine.{Spot, Slot, Argument, Nowhere, spot}
use Rattle.net_form.specs.Tables.{is_short}
use Rattle.pra_base.specs.declared.code.Base.{Base}
use Rattle.pra_base.specs.declared.code.Base.TheVariants as base
use Rattle.pra_base.specs.declared.code.VarKind.{VarKind}
use Rattle.pra_base.specs.declared.code.VarKind.TheVariants.{Constant}
use Rattle.pra_base.specs.Places.{has_register, register_of, is_mem}

-- ---- registers

-- the machine's register of a number that places have
abbrev pub free_register : ℕ → Reg
free_register r = slice_index_or (Eax ∷ Ecx ∷ Edx ∷ Ebx ∷ Esi ∷ Edi ∷ []) r Edi

-- the register of a place that has one
abbrev pub register_at : ℕ → Reg
register_at p = free_register (register_of p)

-- ---- the frame

abbrev pub argument_at : ℕ → ℕ → ℤ
argument_at args i = pos (8 + 4 * (args - 1 - i))

abbrev pub slot_at : ℕ → ℤ
slot_at k = neg_ℤ (pos (16 + 4 * k))

-- so many arguments, aggregate words and slots as placed code has at most
pub record IsSmall (p : LProc) : Type 0 where
  pub args : p.args ≤ 32
  pub aggregates : p.aggregates ≤ 65536
  pub slots : length p.slots ≤ 16383

-- the words of aggregates and slots together
abbrev pub locals : LProc → ℕ
locals p = p.aggregates + length p.slots

abbrev pub aggregate_at : LProc → ℕ → ℤ
aggregate_at p w = pos (4 * w) -ℤ pos (12 + 4 * locals p)

-- the displacement of a variable's own memory: its argument cell, or its slot
abbrev pub spot_at : ℕ → Spot → ℤ
spot_at args (Slot k) = slot_at k
spot_at args (Argument i) = argument_at args i
spot_at args Nowhere = pos 0

abbrev pub memory_at : LProc → ℕ → ℤ
memory_at p v = spot_at p.args (spot p v)

-- the displacements of variables' own memory, by the numbers of the variables
abbrev pub IsTable : LProc → List ℤ → Type 0
IsTable p table = (v : ℕ) (d : ℤ) → slice_get table v ≡ Some d → memory_at p v ≡ d

abbrev pub frame_word : Width → ℤ → MemAddr
frame_word width disp = record { base = Some Ebp; index = None; disp = disp; width = width }

abbrev pub width_of : LProc → Width
width_of p = if p.near then D8 else D32

-- a variable's own memory
abbrev pub cell : LProc → ℕ → MemAddr
cell p v = frame_word (width_of p) (memory_at p v)

-- ---- operands

abbrev pub number_of : VarKind → ℤ
number_of (Constant n) = n
number_of _ = pos 0

-- what stands for the variable at this place; a both place is its register
abbrev pub operand : LProc → ℕ → ℕ → Operand
operand p v place =
    if has_register place then Register (register_at place)
    else if is_mem place then Memory (cell p v)
    else Number (number_of (kind_of p v))

-- ---- addresses of objects

-- numbers of 32 bits
abbrev pub wrapped : ℤ → ℤ
wrapped n = int_wrap w32 n

abbrev pub is_zero : ℤ → Bool
is_zero n = int_le (pos 0) n && int_le n (pos 0)

-- a displacement from the address in a register, in as few bytes as it has
abbrev pub via_width : ℤ → Width
via_width offset = if is_zero offset then D0 else if is_short offset then D8 else D32

-- the address of an object's word, where the places of its variables are known
abbrev pub object_word : LProc → Base → Reg → ℤ → Option (Reg × ℕ) → MemAddr
object_word p (base.Global g) via offset index = record {
  base = None;
  index = index;
  disp = wrapped (pos (data_base + 4 * g) +ℤ offset);
  width = D32;
}
object_word p (base.Frame w) via offset index = record {
  base = Some Ebp;
  index = index;
  disp = wrapped (aggregate_at p w +ℤ offset);
  width = D32;
}
object_word p (base.Cell i) via offset index = record {
  base = Some Ebp;
  index = index;
  disp = wrapped (argument_at p.args i +ℤ offset);
  width = D32;
}
object_word p (base.Via v) via offset index = record {
  base = Some via;
  index = index;
  disp = offset;
  width = via_width offset;
}
