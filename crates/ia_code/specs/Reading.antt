-- Reads the front of some bytes by the table: what stands there, and the bytes after it. None where
-- the table has nothing that begins so.
use Rattle.std.specs.Prelude.{ℕ, ◌-◌, ◌/◌, ◌%◌, ℤ, pos, ◌&&◌, ◌||◌, ◌==◌, nat_lt, nat_le}
use Rattle.std.specs.Prelude.{if◌then◌else◌, List, [], ◌∷◌, length, take, drop, Option, Some, None}
use Rattle.std.specs.Int.{w8, w16, w32, from_le_bytes, cast_signed}
use Rattle.pra_base.specs.declared.ids.Cond.{Cond}
use Rattle.pra_base.specs.declared.ids.ShiftOp.{ShiftOp}
use Rattle.pra_base.specs.declared.ids.ShiftOp.TheVariants.{Shl, Shr, Sar}
use Rattle.pra_base.specs.declared.ids.Cond.TheVariants.{B, Ae, E, Ne, Be, A, S, Ns, L, Ge, Le, G}
use Rattle.ia_code.specs.declared.ins.Reg.{Reg}
use Rattle.ia_code.specs.declared.ins.Reg.TheVariants.{Eax, Ecx, Edx, Ebx, Esp, Ebp, Esi, Edi}
use Rattle.ia_code.specs.declared.ins.Width.{Width}
use Rattle.ia_code.specs.declared.ins.Width.TheVariants.{D0, D8, D32}
use Rattle.ia_code.specs.declared.ins.MemAddr.{MemAddr}
use Rattle.ia_code.specs.declared.ins.Rm.{Rm}
use Rattle.ia_code.specs.declared.ins.Rm.TheVariants as rm
use Rattle.ia_code.specs.declared.ins.AluOp.{AluOp}
use Rattle.ia_code.specs.declared.ins.AluOp.TheVariants.{Add, Or, And, Sub, Xor, Cmp}
use Rattle.ia_code.specs.declared.ins.Ins.{Ins}
use Rattle.ia_code.specs.declared.ins.Ins.TheVariants.{MovRmR, MovRRm, MovRI, MovRmI, AluRmR}
use Rattle.ia_code.specs.declared.ins.Ins.TheVariants.{AluRRm, AluRmI, AluRmB, ImulRRm, ImulI}
use Rattle.ia_code.specs.declared.ins.Ins.TheVariants.{ImulB, Neg, Shift, Idiv, Cdq, Lea, PushR}
use Rattle.ia_code.specs.declared.ins.Ins.TheVariants.{PopR}
use Rattle.ia_code.specs.declared.ins.Ins.TheVariants.{PushM, PushI, Call, Ret, RetI, Jmp, Jcc, Set}
use Rattle.ia_code.specs.declared.ins.Ins.TheVariants.{Movzx, Xchg, Test, Int}
use Rattle.ia_code.specs.Services.{is_service}
use Rattle.ia_code.specs.DecodeTable.{has_low_byte}
use Rattle.pra_list.specs.Options.{◌>>=◌}

-- What a field's number stands for.

abbrev pub reg_of : ℕ → Reg
reg_of n =
    if n == 0 then Eax
    else if n == 1 then Ecx
    else if n == 2 then Edx
    else if n == 3 then Ebx
    else if n == 4 then Esp
    else if n == 5 then Ebp
    else if n == 6 then Esi
    else Edi

abbrev pub cond_of : ℕ → Option Cond
cond_of n =
    if n == 2 then Some B
    else if n == 3 then Some Ae
    else if n == 4 then Some E
    else if n == 5 then Some Ne
    else if n == 6 then Some Be
    else if n == 7 then Some A
    else if n == 8 then Some S
    else if n == 9 then Some Ns
    else if n == 12 then Some L
    else if n == 13 then Some Ge
    else if n == 14 then Some Le
    else if n == 15 then Some G
    else None

abbrev pub op_of : ℕ → Option AluOp
op_of n =
    if n == 0 then Some Add
    else if n == 1 then Some Or
    else if n == 4 then Some And
    else if n == 5 then Some Sub
    else if n == 6 then Some Xor
    else if n == 7 then Some Cmp
    else None

abbrev pub scale_of : ℕ → ℕ
scale_of n = if n == 0 then 1 else if n == 1 then 2 else if n == 2 then 4 else 8

abbrev pub width_of : ℕ → Width
width_of n = if n == 0 then D0 else if n == 1 then D8 else D32

-- Numbers.

unfoldable pub byte_at : List ℕ → Option (ℕ × List ℕ)
byte_at [] = None
byte_at (b ∷ rest) = Some (b, rest)

unfoldable pub short_at : List ℕ → Option (ℤ × List ℕ)
short_at bytes = do
  b ← byte_at bytes
  Some (cast_signed w8 b.0, b.1)

unfoldable pub half_at : List ℕ → Option (ℕ × List ℕ)
half_at bytes =
    if nat_lt (length bytes) 2 then None
    else Some (from_le_bytes w16 (take 2 bytes), drop 2 bytes)

unfoldable pub word_at : List ℕ → Option (ℤ × List ℕ)
word_at bytes =
    if nat_lt (length bytes) 4 then None
    else Some (cast_signed w32 (from_le_bytes w32 (take 4 bytes)), drop 4 bytes)

unfoldable pub displacement_at : Width → List ℕ → Option (ℤ × List ℕ)
displacement_at D0 bytes = Some (pos 0, bytes)
displacement_at D8 bytes = short_at bytes
displacement_at D32 bytes = word_at bytes

-- Operands.

unfoldable pub address_at :
    Option Reg → Option (Reg × ℕ) → Width → List ℕ → Option (MemAddr × List ℕ)
address_at base index width bytes = do
  d ← displacement_at width bytes
  Some (record { base = base; index = index; disp = d.0; width = width }, d.1)

-- after a SIB byte of these fields
unfoldable pub sib_at : ℕ → ℕ → ℕ → ℕ → List ℕ → Option (MemAddr × List ℕ)
sib_at mode scale index base bytes =
    if index == 4 then (
    if (base == 4) && (scale == 0) then address_at (Some Esp) None (width_of mode) bytes
    else None)
    else if (base == 5) && (mode == 0) then
    address_at None (Some (reg_of index, scale_of scale)) D32 bytes
    else address_at (Some (reg_of base)) (Some (reg_of index, scale_of scale)) (width_of mode) bytes

-- after a ModRM byte with these fields mod and r/m
unfoldable pub memory_at : ℕ → ℕ → List ℕ → Option (MemAddr × List ℕ)
memory_at mode low bytes =
    if low == 4 then (do
      s ← byte_at bytes
      sib_at mode (s.0 / 64) (s.0 / 8 % 8) (s.0 % 8) s.1)
    else if (low == 5) && (mode == 0) then address_at None None D32 bytes
    else address_at (Some (reg_of low)) None (width_of mode) bytes

-- after a ModRM byte of these fields
unfoldable pub fields_at : ℕ → ℕ → ℕ → List ℕ → Option (ℕ × Rm × List ℕ)
fields_at mode reg low bytes =
    if mode == 3 then Some (reg, rm.Reg (reg_of low), bytes)
    else (do
      a ← memory_at mode low bytes
      Some (reg, rm.Mem a.0, a.1))

-- the number in the reg field, and the operand
unfoldable pub operand_at : List ℕ → Option (ℕ × Rm × List ℕ)
operand_at bytes = do
  m ← byte_at bytes
  fields_at (m.0 / 64) (m.0 / 8 % 8) (m.0 % 8) m.1

abbrev pub memory_of : ℕ → Rm → List ℕ → Option (ℕ × MemAddr × List ℕ)
memory_of reg (rm.Reg r) rest = None
memory_of reg (rm.Mem a) rest = Some (reg, a, rest)

abbrev pub register_of : ℕ → Rm → List ℕ → Option (ℕ × Reg × List ℕ)
register_of reg (rm.Reg r) rest = Some (reg, r, rest)
register_of reg (rm.Mem a) rest = None

-- the same of an operand that must be in memory
unfoldable pub memory_operand_at : List ℕ → Option (ℕ × MemAddr × List ℕ)
memory_operand_at bytes = do
  o ← operand_at bytes
  memory_of o.0 o.1 o.2

-- and of one that must be a register
unfoldable pub register_operand_at : List ℕ → Option (ℕ × Reg × List ℕ)
register_operand_at bytes = do
  o ← operand_at bytes
  register_of o.0 o.1 o.2

-- Instructions, after their first byte, in families of opcodes.

-- after 81, 83, c7 and f7 the reg field is part of the opcode
unfoldable pub alu_word_at : List ℕ → Option (Ins × List ℕ)
alu_word_at bytes = do
  o ← operand_at bytes
  op ← op_of o.0
  n ← word_at o.2
  Some (AluRmI op o.1 n.0, n.1)

unfoldable pub alu_short_at : List ℕ → Option (Ins × List ℕ)
alu_short_at bytes = do
  o ← operand_at bytes
  op ← op_of o.0
  n ← short_at o.2
  Some (AluRmB op o.1 n.0, n.1)

unfoldable pub mov_word_at : List ℕ → Option (Ins × List ℕ)
mov_word_at bytes = do
  o ← operand_at bytes
  n ← word_at o.2
  if o.0 == 0 then Some (MovRmI o.1 n.0, n.1) else None

unfoldable pub unary_at : List ℕ → Option (Ins × List ℕ)
unary_at bytes = do
  o ← operand_at bytes
  if o.0 == 3 then Some (Neg o.1, o.2) else if o.0 == 7 then Some (Idiv o.1, o.2) else None

abbrev pub shift_of : ℕ → Option ShiftOp
shift_of n =
    if n == 4 then Some Shl
    else if n == 5 then Some Shr
    else if n == 7 then Some Sar
    else None

-- after c1
unfoldable pub shift_at : List ℕ → Option (Ins × List ℕ)
shift_at bytes = do
  o ← operand_at bytes
  op ← shift_of o.0
  n ← byte_at o.2
  Some (Shift op o.1 n.0, n.1)

-- after 0f 90+cc
unfoldable pub set_at : Cond → List ℕ → Option (Ins × List ℕ)
set_at c bytes = do
  o ← register_operand_at bytes
  if (o.0 == 0) && has_low_byte o.1 then Some (Set c o.1, o.2) else None

-- after 0f b6
unfoldable pub movzx_at : List ℕ → Option (Ins × List ℕ)
movzx_at bytes = do
  o ← register_operand_at bytes
  if has_low_byte o.1 then Some (Movzx (reg_of o.0) o.1, o.2) else None

-- after 0f and this byte
unfoldable pub extended_at : ℕ → List ℕ → Option (Ins × List ℕ)
extended_at op bytes =
    if op == 0xaf then (do
      o ← operand_at bytes
      Some (ImulRRm (reg_of o.0) o.1, o.2))
    else if op == 0xb6 then movzx_at bytes
    else if nat_le 0x80 op && nat_le op 0x8f then (do
      c ← cond_of (op - 0x80)
      d ← word_at bytes
      Some (Jcc c d.0, d.1))
    else if nat_le 0x90 op && nat_le op 0x9f then (do
      c ← cond_of (op - 0x90)
      set_at c bytes)
    else None

-- 00 to 3f
unfoldable pub alu_at : ℕ → List ℕ → Option (Ins × List ℕ)
alu_at op bytes =
    if op == 0x0f then (do
      b ← byte_at bytes
      extended_at b.0 b.1)
    else if op % 8 == 1 then (do
      o ← operand_at bytes
      k ← op_of (op / 8)
      Some (AluRmR k o.1 (reg_of o.0), o.2))
    else if op % 8 == 3 then (do
      o ← operand_at bytes
      k ← op_of (op / 8)
      Some (AluRRm k (reg_of o.0) o.1, o.2))
    else None

-- 40 to 7f
unfoldable pub stack_at : ℕ → List ℕ → Option (Ins × List ℕ)
stack_at op bytes =
    if op == 0x68 then (do
      n ← word_at bytes
      Some (PushI n.0, n.1))
    else if op == 0x69 then (do
      o ← operand_at bytes
      n ← word_at o.2
      Some (ImulI (reg_of o.0) o.1 n.0, n.1))
    else if op == 0x6b then (do
      o ← operand_at bytes
      n ← short_at o.2
      Some (ImulB (reg_of o.0) o.1 n.0, n.1))
    else if (op == 0x54) || (op == 0x5c) then None
    else if nat_le 0x50 op && nat_le op 0x57 then Some (PushR (reg_of (op - 0x50)), bytes)
    else if nat_le 0x58 op && nat_le op 0x5f then Some (PopR (reg_of (op - 0x58)), bytes)
    else None

-- 80 to 9f
unfoldable pub move_at : ℕ → List ℕ → Option (Ins × List ℕ)
move_at op bytes =
    if op == 0x81 then alu_word_at bytes
    else if op == 0x83 then alu_short_at bytes
    else if op == 0x85 then (do
      o ← register_operand_at bytes
      Some (Test o.1 (reg_of o.0), o.2))
    else if op == 0x87 then (do
      o ← register_operand_at bytes
      Some (Xchg o.1 (reg_of o.0), o.2))
    else if op == 0x89 then (do
      o ← operand_at bytes
      Some (MovRmR o.1 (reg_of o.0), o.2))
    else if op == 0x8b then (do
      o ← operand_at bytes
      Some (MovRRm (reg_of o.0) o.1, o.2))
    else if op == 0x8d then (do
      o ← memory_operand_at bytes
      Some (Lea (reg_of o.0) o.1, o.2))
    else if op == 0x99 then Some (Cdq, bytes)
    else None

-- a0 to df
unfoldable pub constant_at : ℕ → List ℕ → Option (Ins × List ℕ)
constant_at op bytes =
    if op == 0xc1 then shift_at bytes
    else if op == 0xc2 then (do
      n ← half_at bytes
      Some (RetI n.0, n.1))
    else if op == 0xc3 then Some (Ret, bytes)
    else if op == 0xc7 then mov_word_at bytes
    else if op == 0xcd then (do
      n ← byte_at bytes
      if is_service n.0 then Some (Int n.0, n.1) else None)
    else if nat_le 0xb8 op && nat_le op 0xbf then (do
      n ← word_at bytes
      Some (MovRI (reg_of (op - 0xb8)) n.0, n.1))
    else None

-- e0 to ff
unfoldable pub jump_at : ℕ → List ℕ → Option (Ins × List ℕ)
jump_at op bytes =
    if op == 0xe8 then (do
      d ← word_at bytes
      Some (Call d.0, d.1))
    else if op == 0xe9 then (do
      d ← word_at bytes
      Some (Jmp d.0, d.1))
    else if op == 0xf7 then unary_at bytes
    else if op == 0xff then (do
      o ← memory_operand_at bytes
      if o.0 == 6 then Some (PushM o.1, o.2) else None)
    else None

unfoldable pub opcode_at : ℕ → List ℕ → Option (Ins × List ℕ)
opcode_at op bytes =
    if nat_lt op 0x40 then alu_at op bytes
    else if nat_lt op 0x80 then stack_at op bytes
    else if nat_lt op 0xa0 then move_at op bytes
    else if nat_lt op 0xe0 then constant_at op bytes
    else jump_at op bytes

unfoldable pub instruction_at : List ℕ → Option (Ins × List ℕ)
instruction_at bytes = do
  op ← byte_at bytes
  opcode_at op.0 op.1

abbrev pub counted : List ℕ → Option (Ins × List ℕ) → Option (Ins × ℕ)
counted bytes None = None
counted bytes (Some x) = Some (x.0, length bytes - length x.1)

-- the instruction at the front, and how many bytes it takes
unfoldable pub decoded : List ℕ → Option (Ins × ℕ)
decoded bytes = counted bytes (instruction_at bytes)
