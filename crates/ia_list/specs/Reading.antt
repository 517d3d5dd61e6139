-- The one instruction that a line at the front of some bytes can be of. Places, blanks, commas and
-- other signs that a text has at known places are passed over unread: that all of the line is as it
-- has to be is told by writing the instruction again.
use Rattle.std.specs.Prelude.{ℕ, ◌+◌, ◌-◌, ◌*◌, ℤ, pos, neg_ℤ, Bool, not, ◌&&◌, ◌||◌, ◌==◌, nat_lt}
use Rattle.std.specs.Prelude.{nat_le, if◌then◌else◌, List, [], ◌∷◌, ◌++◌, take, drop, slice_index}
use Rattle.std.specs.Prelude.{position, Option, Some, None, int_le, unsigned_abs}
use Rattle.std.specs.Char.{is_ascii_digit}
use Rattle.std.specs.Str.{bytes_eq}
use Rattle.std.specs.Int.{w32, from_be_bytes}
use Rattle.pra_base.specs.Words.{signed, diff32}
use Rattle.pra_base.specs.declared.ids.Cond.{Cond}
use Rattle.pra_base.specs.declared.ids.ShiftOp.TheVariants.{Shl, Shr, Sar}
use Rattle.pra_base.specs.declared.ids.Cond.TheVariants.{B, Ae, E, Ne, Be, A, S, Ns, L, Ge, Le, G}
use Rattle.ia_code.specs.declared.ins.Reg.{Reg}
use Rattle.ia_code.specs.declared.ins.Reg.TheVariants.{Eax, Ecx, Edx, Ebx, Esp, Ebp, Esi, Edi}
use Rattle.ia_code.specs.declared.ins.Width.{Width}
use Rattle.ia_code.specs.declared.ins.Width.TheVariants.{D0, D8, D32}
use Rattle.ia_code.specs.declared.ins.MemAddr.{MemAddr}
use Rattle.ia_code.specs.declared.ins.Rm.{Rm}
use Rattle.ia_code.specs.declared.ins.Rm.TheVariants as rm
use Rattle.ia_code.specs.declared.ins.AluOp.{AluOp}
use Rattle.ia_code.specs.declared.ins.AluOp.TheVariants.{Add, Or, And, Sub, Xor, Cmp}
use Rattle.ia_code.specs.declared.ins.Ins.{Ins}
use Rattle.ia_code.specs.declared.ins.Ins.TheVariants as ins
use Rattle.ia_list.specs.declared.forms.Form.{Form}
use Rattle.ia_list.specs.declared.forms.Form.TheVariants as form
use Rattle.ia_list.specs.declared.forms.Operands.{Operands}
use Rattle.ia_list.specs.declared.forms.Operands.TheVariants.{Nothing, One, Two, Number, OneNumber}
use Rattle.ia_list.specs.declared.forms.Operands.TheVariants.{TwoNumber, Target, LowByte}
use Rattle.ia_list.specs.declared.forms.Operands.TheVariants.{OneLowByte}
use Rattle.ia_list.specs.declared.forms.Shape.{Shape}
use Rattle.ia_list.specs.declared.forms.Shape.TheVariants as shape
use Rattle.ia_list.specs.Parts.{name, shape_of}
use Rattle.pra_list.specs.Options.{◌>>=◌}

-- Numbers. Each reader gives what it read and the bytes behind it.

-- the digits in front, behind others of this value, where the whole is at most 2^31
unfoldable pub digits_at : ℕ → List ℕ → Option (ℕ × List ℕ)
digits_at value [] = Some (value, [])
digits_at value (b ∷ bytes) =
    if not (is_ascii_digit b) then Some (value, b ∷ bytes)
    else if nat_lt 2147483648 (value * 10 + (b - 48)) then None
    else digits_at (value * 10 + (b - 48)) bytes

-- a minus, maybe, and digits, of a number of 32 bits in two's complement
unfoldable pub number_at : List ℕ → Option (ℤ × List ℕ)
number_at bytes =
    if slice_index bytes 0 == 45 then (do
      d ← digits_at 0 (drop 1 bytes)
      Some (neg_ℤ (pos d.0), d.1))
    else (do
      d ← digits_at 0 bytes
      if nat_lt d.0 2147483648 then Some (pos d.0, d.1) else None)

abbrev pub hex_value : ℕ → Option ℕ
hex_value b =
    if nat_le 48 b && nat_le b 57 then Some (b - 48)
    else if nat_le 97 b && nat_le b 102 then Some (b - 87)
    else None

-- two hexadecimal digits
unfoldable pub pair_at : List ℕ → Option (ℕ × List ℕ)
pair_at (a ∷ b ∷ rest) = do
  high ← hex_value a
  low ← hex_value b
  Some (16 * high + low, rest)
pair_at _ = None

-- eight of them
unfoldable pub hexadecimal_at : List ℕ → Option (ℕ × List ℕ)
hexadecimal_at bytes = do
  a ← pair_at bytes
  b ← pair_at a.1
  c ← pair_at b.1
  d ← pair_at c.1
  Some (from_be_bytes w32 (a.0 ∷ b.0 ∷ c.0 ∷ d.0 ∷ []), d.1)

-- Registers and addresses.

-- the register whose name has these two letters behind the first
abbrev pub register_named : ℕ → ℕ → Option Reg
register_named a b =
    if (a == 97) && (b == 120) then Some Eax
    else if (a == 99) && (b == 120) then Some Ecx
    else if (a == 100) && (b == 120) then Some Edx
    else if (a == 98) && (b == 120) then Some Ebx
    else if (a == 115) && (b == 112) then Some Esp
    else if (a == 98) && (b == 112) then Some Ebp
    else if (a == 115) && (b == 105) then Some Esi
    else if (a == 100) && (b == 105) then Some Edi
    else None

unfoldable pub register_at : List ℕ → Option (Reg × List ℕ)
register_at (first ∷ a ∷ b ∷ rest) = do
  r ← register_named a b
  Some (r, rest)
register_at _ = None

-- the register whose low byte's name has this letter first
abbrev pub low_named : ℕ → Option Reg
low_named a =
    if a == 97 then Some Eax
    else if a == 99 then Some Ecx
    else if a == 100 then Some Edx
    else if a == 98 then Some Ebx
    else None

abbrev pub scale_named : ℕ → Option ℕ
scale_named a =
    if a == 49 then Some 1
    else if a == 50 then Some 2
    else if a == 52 then Some 4
    else if a == 56 then Some 8
    else None

-- a register and +, where there is one and no * behind it
unfoldable pub base_at : List ℕ → Option (Option Reg × List ℕ)
base_at bytes =
    if (slice_index bytes 0 == 101) && not (slice_index bytes 3 == 42) then (do
      r ← register_at bytes
      Some (Some r.0, drop 1 r.1))
    else Some (None, bytes)

-- a register, *, its scale and +, where there is a register
unfoldable pub index_at : List ℕ → Option (Option (Reg × ℕ) × List ℕ)
index_at bytes =
    if slice_index bytes 0 == 101 then (do
      r ← register_at bytes
      s ← scale_named (slice_index r.1 1)
      Some (Some (r.0, s), drop 3 r.1))
    else Some (None, bytes)

-- d0:, d8: or d32:
unfoldable pub width_at : List ℕ → Option (Width × List ℕ)
width_at bytes =
    if slice_index bytes 1 == 48 then Some (D0, drop 3 bytes)
    else if slice_index bytes 1 == 56 then Some (D8, drop 3 bytes)
    else if slice_index bytes 1 == 51 then Some (D32, drop 4 bytes)
    else None

-- an address behind its bracket
unfoldable pub address_at : List ℕ → Option (MemAddr × List ℕ)
address_at bytes = do
  b ← base_at bytes
  x ← index_at b.1
  w ← width_at x.1
  d ← number_at w.1
  Some (record { base = b.0; index = x.0; disp = d.0; width = w.0 }, drop 1 d.1)

unfoldable pub operand_at : List ℕ → Option (Rm × List ℕ)
operand_at bytes =
    if slice_index bytes 0 == 91 then (do
      a ← address_at (drop 1 bytes)
      Some (rm.Mem a.0, a.1))
    else (do
      r ← register_at bytes
      Some (rm.Reg r.0, r.1))

-- Operands behind a name, by their shape.
unfoldable pub operands_at : Shape → List ℕ → Option Operands
operands_at shape.Nothing bytes = Some Nothing
operands_at shape.One bytes = do
  a ← operand_at (drop 1 bytes)
  Some (One a.0)
operands_at shape.Two bytes = do
  a ← operand_at (drop 1 bytes)
  b ← operand_at (drop 2 a.1)
  Some (Two a.0 b.0)
operands_at shape.Number bytes = do
  n ← number_at (drop 1 bytes)
  Some (Number n.0)
operands_at shape.OneNumber bytes = do
  a ← operand_at (drop 1 bytes)
  n ← number_at (drop 2 a.1)
  Some (OneNumber a.0 n.0)
operands_at shape.TwoNumber bytes = do
  a ← operand_at (drop 1 bytes)
  b ← operand_at (drop 2 a.1)
  n ← number_at (drop 2 b.1)
  Some (TwoNumber a.0 b.0 n.0)
operands_at shape.Target bytes = do
  t ← hexadecimal_at (drop 1 bytes)
  Some (Target t.0)
operands_at shape.LowByte bytes = do
  r ← low_named (slice_index bytes 1)
  Some (LowByte r)
operands_at shape.OneLowByte bytes = do
  a ← operand_at (drop 1 bytes)
  r ← low_named (slice_index a.1 2)
  Some (OneLowByte a.0 r)

-- The form of a name.

abbrev pub alu_forms : AluOp → List Form
alu_forms op = form.AluMr op ∷ form.AluRm op ∷ form.AluMi op ∷ form.AluMb op ∷ []

abbrev pub conditions : List Cond
conditions = B ∷ Ae ∷ E ∷ Ne ∷ Be ∷ A ∷ S ∷ Ns ∷ L ∷ Ge ∷ Le ∷ G ∷ []

-- the forms whose names begin with a letter
abbrev pub forms_with : ℕ → List Form
forms_with a =
    if a == 97 then alu_forms Add ++ alu_forms And
    else if a == 99 then form.Cdq ∷ form.Call ∷ alu_forms Cmp
    else if a == 105 then form.ImulRm ∷ form.ImulI ∷ form.ImulB ∷ form.Idiv ∷ form.Int ∷ []
    else if a == 106 then form.Jmp ∷ form.Jcc B ∷ form.Jcc Ae ∷ form.Jcc E ∷ form.Jcc Ne
    ∷ form.Jcc Be ∷ form.Jcc A ∷ form.Jcc S ∷ form.Jcc Ns ∷ form.Jcc L ∷ form.Jcc Ge
    ∷ form.Jcc Le ∷ form.Jcc G ∷ []
    else if a == 108 then form.Lea ∷ []
    else if a == 109 then form.MovMr ∷ form.MovRm ∷ form.MovRi ∷ form.MovMi ∷ form.Movzx ∷ []
    else if a == 110 then form.Neg ∷ []
    else if a == 111 then alu_forms Or
    else if a == 112 then form.PushR ∷ form.PushM ∷ form.PushI ∷ form.Pop ∷ []
    else if a == 114 then form.Ret ∷ form.RetI ∷ []
    else if a == 115 then form.Set B ∷ form.Set Ae ∷ form.Set E ∷ form.Set Ne ∷ form.Set Be
    ∷ form.Set A ∷ form.Set S ∷ form.Set Ns ∷ form.Set L ∷ form.Set Ge ∷ form.Set Le
    ∷ form.Set G ∷ form.Shift Shl ∷ form.Shift Shr ∷ form.Shift Sar ∷ alu_forms Sub
    else if a == 116 then form.Test ∷ []
    else if a == 120 then form.Xchg ∷ alu_forms Xor
    else []

abbrev pub first_named : List ℕ → List Form → Option Form
first_named word [] = None
first_named word (f ∷ forms) =
    if bytes_eq word (name f) then Some f else first_named word forms

abbrev pub form_named : List ℕ → Option Form
form_named word = first_named word (forms_with (slice_index word 0))

-- The instruction of a form and operands.

abbrev pub in_register : Rm → Option Reg
in_register (rm.Reg r) = Some r
in_register (rm.Mem a) = None

abbrev pub in_memory : Rm → Option MemAddr
in_memory (rm.Reg r) = None
in_memory (rm.Mem a) = Some a

-- a number of 8 bits in two's complement, and one without a sign that is at most so much
abbrev pub short_of : ℤ → Option ℤ
short_of n = if int_le (neg_ℤ (pos 128)) n && int_le n (pos 127) then Some n else None

abbrev pub natural_of : ℕ → ℤ → Option ℕ
natural_of most n =
    if int_le (pos 0) n && int_le n (pos most) then Some (unsigned_abs n) else None

-- how far it is from this place to a target
abbrev pub distance : ℕ → ℕ → ℤ
distance next t = signed (diff32 t next)

unfoldable pub made_nothing : Form → Option Ins
made_nothing form.Cdq = Some ins.Cdq
made_nothing form.Ret = Some ins.Ret
made_nothing _ = None

unfoldable pub made_one : Form → Rm → Option Ins
made_one form.Neg a = Some (ins.Neg a)
made_one form.Idiv a = Some (ins.Idiv a)
made_one form.PushR a = do
  r ← in_register a
  Some (ins.PushR r)
made_one form.PushM a = do
  m ← in_memory a
  Some (ins.PushM m)
made_one form.Pop a = do
  r ← in_register a
  Some (ins.PopR r)
made_one _ a = None

unfoldable pub made_two : Form → Rm → Rm → Option Ins
made_two form.MovMr a b = do
  r ← in_register b
  Some (ins.MovRmR a r)
made_two form.MovRm a b = do
  r ← in_register a
  Some (ins.MovRRm r b)
made_two (form.AluMr op) a b = do
  r ← in_register b
  Some (ins.AluRmR op a r)
made_two (form.AluRm op) a b = do
  r ← in_register a
  Some (ins.AluRRm op r b)
made_two form.ImulRm a b = do
  r ← in_register a
  Some (ins.ImulRRm r b)
made_two form.Lea a b = do
  r ← in_register a
  m ← in_memory b
  Some (ins.Lea r m)
made_two form.Xchg a b = do
  r ← in_register a
  s ← in_register b
  Some (ins.Xchg r s)
made_two form.Test a b = do
  r ← in_register a
  s ← in_register b
  Some (ins.Test r s)
made_two _ a b = None

unfoldable pub made_number : Form → ℤ → Option Ins
made_number form.PushI n = Some (ins.PushI n)
made_number form.RetI n = do
  k ← natural_of 65535 n
  Some (ins.RetI k)
made_number form.Int n = do
  k ← natural_of 255 n
  Some (ins.Int k)
made_number _ n = None

unfoldable pub made_one_number : Form → Rm → ℤ → Option Ins
made_one_number form.MovRi a n = do
  r ← in_register a
  Some (ins.MovRI r n)
made_one_number form.MovMi a n = Some (ins.MovRmI a n)
made_one_number (form.AluMi op) a n = Some (ins.AluRmI op a n)
made_one_number (form.AluMb op) a n = do
  k ← short_of n
  Some (ins.AluRmB op a k)
made_one_number (form.Shift op) a n = do
  k ← natural_of 255 n
  Some (ins.Shift op a k)
made_one_number _ a n = None

unfoldable pub made_two_number : Form → Rm → Rm → ℤ → Option Ins
made_two_number form.ImulI a b n = do
  r ← in_register a
  Some (ins.ImulI r b n)
made_two_number form.ImulB a b n = do
  r ← in_register a
  k ← short_of n
  Some (ins.ImulB r b k)
made_two_number _ a b n = None

-- CALL and JMP have five bytes, Jcc six
unfoldable pub made_target : ℕ → Form → ℕ → Option Ins
made_target place form.Call t = Some (ins.Call (distance (place + 5) t))
made_target place form.Jmp t = Some (ins.Jmp (distance (place + 5) t))
made_target place (form.Jcc c) t = Some (ins.Jcc c (distance (place + 6) t))
made_target place _ t = None

unfoldable pub made_low : Form → Reg → Option Ins
made_low (form.Set c) r = Some (ins.Set c r)
made_low _ r = None

unfoldable pub made_one_low : Form → Rm → Reg → Option Ins
made_one_low form.Movzx a r = do
  s ← in_register a
  Some (ins.Movzx s r)
made_one_low _ a r = None

-- what stands at this place
unfoldable pub made : ℕ → Form → Operands → Option Ins
made place f Nothing = made_nothing f
made place f (One a) = made_one f a
made place f (Two a b) = made_two f a b
made place f (Number n) = made_number f n
made place f (OneNumber a n) = made_one_number f a n
made place f (TwoNumber a b n) = made_two_number f a b n
made place f (Target t) = made_target place f t
made place f (LowByte r) = made_low f r
made place f (OneLowByte a r) = made_one_low f a r

-- A line: eight digits and a blank, a name up to a blank or the line's end, and operands.

abbrev pub ends_name : ℕ → Bool
ends_name b = (b == 32) || (b == 10)

unfoldable pub named_at : List ℕ → Option (Form × List ℕ)
named_at bytes = do
  k ← position ends_name bytes
  f ← form_named (take k bytes)
  Some (f, drop k bytes)

unfoldable pub instruction_at : ℕ → List ℕ → Option Ins
instruction_at place bytes = do
  f ← named_at (drop 9 bytes)
  o ← operands_at (shape_of f.0) f.1
  made place f.0 o

-- The number of data words that a first line can have.
unfoldable pub words_at : List ℕ → Option ℕ
words_at bytes = do
  d ← digits_at 0 (drop 5 bytes)
  Some d.0
