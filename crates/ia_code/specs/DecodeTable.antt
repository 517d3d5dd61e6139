-- The bytes of each instruction, as the opcode tables of the Intel manual (SDM volume 2) have them.
-- An operand is given by the ModRM byte, and for some by a SIB byte and a displacement after it
-- (SDM volume 2, section 2.1).
use Rattle.std.specs.Prelude.{◌≡◌, ℕ, ◌+◌, ◌*◌, ◌^◌, ◌≤◌, ◌<◌, ℤ, pos, Bool, true, false, ◌||◌}
use Rattle.std.specs.Prelude.{◌==◌, nat_lt, if◌then◌else◌, List, [], ◌∷◌, ◌++◌, length, Option}
use Rattle.std.specs.Prelude.{Some, None, slice_index}
use Rattle.std.specs.Int.{w8, w16, w32, to_le_bytes, cast_unsigned}
use Rattle.std.specs.Int.RustNames.{FitsSigned}
use Rattle.pra_base.specs.declared.ids.Cond.{Cond}
use Rattle.pra_base.specs.declared.ids.ShiftOp.{ShiftOp}
use Rattle.pra_base.specs.declared.ids.ShiftOp.TheVariants.{Shl, Shr, Sar}
use Rattle.pra_base.specs.declared.ids.Cond.TheVariants.{B, Ae, E, Ne, Be, A, S, Ns, L, Ge, Le, G}
use Rattle.ia_code.specs.declared.ins.Reg.{Reg}
use Rattle.ia_code.specs.declared.ins.Reg.TheVariants.{Eax, Ecx, Edx, Ebx, Esp, Ebp, Esi, Edi}
use Rattle.ia_code.specs.declared.ins.Width.{Width}
use Rattle.ia_code.specs.declared.ins.Width.TheVariants.{D0, D8, D32}
use Rattle.ia_code.specs.declared.ins.MemAddr.{MemAddr}
use Rattle.ia_code.specs.declared.ins.Rm.{Rm}
use Rattle.ia_code.specs.declared.ins.Rm.TheVariants as rm
use Rattle.ia_code.specs.declared.ins.AluOp.{AluOp}
use Rattle.ia_code.specs.declared.ins.AluOp.TheVariants.{Add, Or, And, Sub, Xor, Cmp}
use Rattle.ia_code.specs.declared.ins.Ins.{Ins}
use Rattle.ia_code.specs.declared.ins.Ins.TheVariants.{MovRmR, MovRRm, MovRI, MovRmI, AluRmR}
use Rattle.ia_code.specs.declared.ins.Ins.TheVariants.{AluRRm, AluRmI, AluRmB, ImulRRm, ImulI}
use Rattle.ia_code.specs.declared.ins.Ins.TheVariants.{ImulB, Neg, Shift, Idiv, Cdq, Lea, PushR}
use Rattle.ia_code.specs.declared.ins.Ins.TheVariants.{PopR}
use Rattle.ia_code.specs.declared.ins.Ins.TheVariants.{PushM, PushI, Call, Ret, RetI, Jmp, Jcc, Set}
use Rattle.ia_code.specs.declared.ins.Ins.TheVariants.{Movzx, Xchg, Test, Int}
use Rattle.ia_code.specs.Services.{is_service}

-- The numbers of the fields.

-- a register, in a field of three bits
abbrev pub reg_number : Reg → ℕ
reg_number Eax = 0
reg_number Ecx = 1
reg_number Edx = 2
reg_number Ebx = 3
reg_number Esp = 4
reg_number Ebp = 5
reg_number Esi = 6
reg_number Edi = 7

-- an operation of ADD's family: bits 3 to 5 of its opcode, or the reg field of an opcode that the
-- family shares
abbrev pub op_number : AluOp → ℕ
op_number Add = 0
op_number Or = 1
op_number And = 4
op_number Sub = 5
op_number Xor = 6
op_number Cmp = 7

-- a shift: the reg field of its opcode
abbrev pub shift_number : ShiftOp → ℕ
shift_number Shl = 4
shift_number Shr = 5
shift_number Sar = 7

-- a condition: the low four bits of Jcc's and SETcc's opcode (SDM volume 1, appendix B)
abbrev pub cond_number : Cond → ℕ
cond_number B = 2
cond_number Ae = 3
cond_number E = 4
cond_number Ne = 5
cond_number Be = 6
cond_number A = 7
cond_number S = 8
cond_number Ns = 9
cond_number L = 12
cond_number Ge = 13
cond_number Le = 14
cond_number G = 15

-- the mod field of an operand in memory
abbrev pub mod_number : Width → ℕ
mod_number D0 = 0
mod_number D8 = 1
mod_number D32 = 2

-- the scale field of a SIB byte, for the scales 1, 2, 4 and 8
abbrev pub scale_number : ℕ → ℕ
scale_number s = if s == 1 then 0 else if s == 2 then 1 else if s == 4 then 2 else 3

-- The parts of an instruction.

-- a byte of three fields, of 2, 3 and 3 bits: mod, reg and r/m in a ModRM byte, scale, index and
-- base in a SIB byte
unfoldable pub fields : ℕ → ℕ → ℕ → ℕ
fields high middle low = high * 64 + middle * 8 + low

-- a number of 8 bits, ib
abbrev pub imm8 : ℤ → List ℕ
imm8 n = cast_unsigned w8 n ∷ []

-- a number of 32 bits, id and cd, the lowest byte first
abbrev pub imm32 : ℤ → List ℕ
imm32 n = to_le_bytes w32 (cast_unsigned w32 n)

abbrev pub displacement : Width → ℤ → List ℕ
displacement D0 d = []
displacement D8 d = imm8 d
displacement D32 d = imm32 d

-- An operand in memory, under the number in its reg field: its base, its index with the scale, its
-- width and its displacement (SDM volume 2, tables 2-2 and 2-3). With r/m 4 a SIB byte follows; mod
-- 0 with r/m 5, or with base 5 in the SIB byte, has no base; index 4 in the SIB byte is no index.
abbrev pub address : ℕ → Option Reg → Option (Reg × ℕ) → Width → ℤ → List ℕ
address reg None None w d = fields 0 reg 5 ∷ imm32 d
address reg None (Some x) w d =
    fields 0 reg 4 ∷ fields (scale_number x.1) (reg_number x.0) 5 ∷ imm32 d
address reg (Some Esp) None w d = fields (mod_number w) reg 4 ∷ fields 0 4 4 ∷ displacement w d
address reg (Some b) None w d = fields (mod_number w) reg (reg_number b) ∷ displacement w d
address reg (Some b) (Some x) w d =
    fields (mod_number w) reg 4 ∷ fields (scale_number x.1) (reg_number x.0) (reg_number b)
    ∷ displacement w d

-- an operand, under the number in its reg field: /r and /digit. With mod 3 it is a register.
abbrev pub operand : ℕ → Rm → List ℕ
operand reg (rm.Reg r) = fields 3 reg (reg_number r) ∷ []
operand reg (rm.Mem a) = address reg a.base a.index a.width a.disp

-- The table: the manual's name and opcode of an instruction, and its bytes. op is ADD, OR, AND,
-- SUB, XOR or CMP, and n its number.
abbrev pub bytes_of : Ins → List ℕ
-- MOV r/m32, r32: 89 /r
bytes_of (MovRmR to from) = 0x89 ∷ operand (reg_number from) to
-- MOV r32, r/m32: 8B /r
bytes_of (MovRRm to from) = 0x8b ∷ operand (reg_number to) from
-- MOV r32, imm32: B8+rd id
bytes_of (MovRI to n) = (0xb8 + reg_number to) ∷ imm32 n
-- MOV r/m32, imm32: C7 /0 id
bytes_of (MovRmI to n) = 0xc7 ∷ (operand 0 to ++ imm32 n)
-- op r/m32, r32: 01+8n /r
bytes_of (AluRmR op to from) = (8 * op_number op + 0x01) ∷ operand (reg_number from) to
-- op r32, r/m32: 03+8n /r
bytes_of (AluRRm op to from) = (8 * op_number op + 0x03) ∷ operand (reg_number to) from
-- op r/m32, imm32: 81 /n id
bytes_of (AluRmI op to n) = 0x81 ∷ (operand (op_number op) to ++ imm32 n)
-- op r/m32, imm8: 83 /n ib
bytes_of (AluRmB op to n) = 0x83 ∷ (operand (op_number op) to ++ imm8 n)
-- IMUL r32, r/m32: 0F AF /r
bytes_of (ImulRRm to from) = 0x0f ∷ 0xaf ∷ operand (reg_number to) from
-- IMUL r32, r/m32, imm32: 69 /r id
bytes_of (ImulI to from n) = 0x69 ∷ (operand (reg_number to) from ++ imm32 n)
-- IMUL r32, r/m32, imm8: 6B /r ib
bytes_of (ImulB to from n) = 0x6b ∷ (operand (reg_number to) from ++ imm8 n)
-- NEG r/m32: F7 /3
bytes_of (Neg to) = 0xf7 ∷ operand 3 to
-- SHL, SHR, SAR r/m32, imm8: C1 /4, /5, /7 ib
bytes_of (Shift op to n) = 0xc1 ∷ (operand (shift_number op) to ++ n ∷ [])
-- IDIV r/m32: F7 /7
bytes_of (Idiv by) = 0xf7 ∷ operand 7 by
-- CDQ: 99
bytes_of Cdq = 0x99 ∷ []
-- LEA r32, m: 8D /r
bytes_of (Lea to from) = 0x8d ∷ operand (reg_number to) (rm.Mem from)
-- PUSH r32: 50+rd
bytes_of (PushR from) = (0x50 + reg_number from) ∷ []
-- POP r32: 58+rd
bytes_of (PopR to) = (0x58 + reg_number to) ∷ []
-- PUSH m32: FF /6
bytes_of (PushM from) = 0xff ∷ operand 6 (rm.Mem from)
-- PUSH imm32: 68 id
bytes_of (PushI n) = 0x68 ∷ imm32 n
-- CALL rel32: E8 cd
bytes_of (Call to) = 0xe8 ∷ imm32 to
-- RET: C3
bytes_of Ret = 0xc3 ∷ []
-- RET imm16: C2 iw
bytes_of (RetI n) = 0xc2 ∷ to_le_bytes w16 n
-- JMP rel32: E9 cd
bytes_of (Jmp to) = 0xe9 ∷ imm32 to
-- Jcc rel32: 0F 80+cc cd
bytes_of (Jcc c to) = 0x0f ∷ (0x80 + cond_number c) ∷ imm32 to
-- SETcc r8: 0F 90+cc /0
bytes_of (Set c to) = 0x0f ∷ (0x90 + cond_number c) ∷ operand 0 (rm.Reg to)
-- MOVZX r32, r8: 0F B6 /r
bytes_of (Movzx to from) = 0x0f ∷ 0xb6 ∷ operand (reg_number to) (rm.Reg from)
-- XCHG r32, r32: 87 /r
bytes_of (Xchg to with) = 0x87 ∷ operand (reg_number with) (rm.Reg to)
-- TEST r32, r32: 85 /r
bytes_of (Test left right) = 0x85 ∷ operand (reg_number right) (rm.Reg left)
-- INT imm8: CD ib
bytes_of (Int n) = 0xcd ∷ n ∷ []

-- Which instructions the table has.

abbrev pub is_register : Reg → Reg → Bool
is_register a b = reg_number a == reg_number b

-- a register whose low byte is a register too: AL, CL, DL and BL (the numbers 4 to 7 name AH, CH,
-- DH and BH)
abbrev pub has_low_byte : Reg → Bool
has_low_byte r = nat_lt (reg_number r) 4

abbrev pub is_scale : ℕ → Bool
is_scale s = (s == 1) || (s == 2) || (s == 4) || (s == 8)

-- Esp is no index
abbrev pub is_index : Option (Reg × ℕ) → Bool
is_index None = true
is_index (Some x) = if is_register x.0 Esp then false else is_scale x.1

-- what has no base has 32 bits of displacement, and base Ebp has some
abbrev pub is_base : Option Reg → Width → Bool
is_base None D32 = true
is_base None _ = false
is_base (Some Ebp) D0 = false
is_base (Some _) _ = true

-- a displacement that its width holds
abbrev pub Holds : Width → ℤ → Type 0
Holds D0 d = d ≡ pos 0
Holds D8 d = FitsSigned w8 d
Holds D32 d = FitsSigned w32 d

pub record IsAddress (a : MemAddr) : Type 0 where
  pub index : is_index a.index ≡ true
  pub base : is_base a.base a.width ≡ true
  pub disp : Holds a.width a.disp

abbrev pub IsOperand : Rm → Type 0
IsOperand (rm.Reg r) = Unit {0}
IsOperand (rm.Mem a) = IsAddress a

-- an instruction that the table has; a number is one of its field's width
abbrev pub IsSound : Ins → Type 0
IsSound (MovRmR to from) = IsOperand to
IsSound (MovRRm to from) = IsOperand from
IsSound (MovRI to n) = FitsSigned w32 n
IsSound (MovRmI to n) = IsOperand to × FitsSigned w32 n
IsSound (AluRmR op to from) = IsOperand to
IsSound (AluRRm op to from) = IsOperand from
IsSound (AluRmI op to n) = IsOperand to × FitsSigned w32 n
IsSound (AluRmB op to n) = IsOperand to × FitsSigned w8 n
IsSound (ImulRRm to from) = IsOperand from
IsSound (ImulI to from n) = IsOperand from × FitsSigned w32 n
IsSound (ImulB to from n) = IsOperand from × FitsSigned w8 n
IsSound (Neg to) = IsOperand to
IsSound (Shift op to n) = IsOperand to × (n < 2 ^ 8)
IsSound (Idiv by) = IsOperand by
IsSound Cdq = Unit {0}
IsSound (Lea to from) = IsAddress from
IsSound (PushR from) = is_register from Esp ≡ false
IsSound (PopR to) = is_register to Esp ≡ false
IsSound (PushM from) = IsAddress from
IsSound (PushI n) = FitsSigned w32 n
IsSound (Call to) = FitsSigned w32 to
IsSound Ret = Unit {0}
IsSound (RetI n) = n < 2 ^ 16
IsSound (Jmp to) = FitsSigned w32 to
IsSound (Jcc c to) = FitsSigned w32 to
IsSound (Set c to) = has_low_byte to ≡ true
IsSound (Movzx to from) = has_low_byte from ≡ true
IsSound (Xchg to with) = Unit {0}
IsSound (Test left right) = Unit {0}
IsSound (Int n) = is_service n ≡ true

-- a row: these bytes, of this length, are the instruction's
pub record Row (bytes : List ℕ) (i : Ins) (len : ℕ) : Type 0 where
  pub sound : IsSound i
  pub spelled : bytes ≡ bytes_of i
  pub length_is : len ≡ length bytes

-- each of the numbers is a byte
abbrev pub IsBytes : List ℕ → Type 0
IsBytes bytes = (k : ℕ) → slice_index bytes k < 2 ^ 8

-- The size of an encoding. The longest has an opcode, a ModRM and a SIB byte, a displacement and a
-- number: 1 + 1 + 1 + 4 + 4 bytes.
pub record IsCode (bytes : List ℕ) : Type 0 where
  pub some : 1 ≤ length bytes
  pub most : length bytes ≤ 11
  pub all : IsBytes bytes
