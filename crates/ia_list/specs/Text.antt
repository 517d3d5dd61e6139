-- A line of a text: a place in the code, and the instruction that stands there.
use Rattle.std.specs.Prelude.{ℕ, ◌+◌, ◌/◌, ◌%◌, nat_lt, if◌then◌else◌, List, [], ◌∷◌, ◌++◌, length}
use Rattle.std.specs.Prelude.{Option, Some, None, codes}
use Rattle.std.specs.Int.{w32, to_be_bytes}
use Rattle.std.specs.Fmt.{decimal, signed_decimal}
use Rattle.ia_code.specs.declared.ins.Reg.{Reg}
use Rattle.ia_code.specs.declared.ins.Reg.TheVariants.{Eax, Ecx, Edx, Ebx, Esp, Ebp, Esi, Edi}
use Rattle.ia_code.specs.declared.ins.Width.{Width}
use Rattle.ia_code.specs.declared.ins.Width.TheVariants.{D0, D8, D32}
use Rattle.ia_code.specs.declared.ins.MemAddr.{MemAddr}
use Rattle.ia_code.specs.declared.ins.Rm.{Rm}
use Rattle.ia_code.specs.declared.ins.Rm.TheVariants as rm
use Rattle.ia_code.specs.declared.ins.Ins.{Ins}
use Rattle.ia_code.specs.DecodeTable.{bytes_of}
use Rattle.ia_list.specs.declared.forms.Operands.{Operands}
use Rattle.ia_list.specs.declared.forms.Operands.TheVariants.{Nothing, One, Two, Number, OneNumber}
use Rattle.ia_list.specs.declared.forms.Operands.TheVariants.{TwoNumber, Target, LowByte}
use Rattle.ia_list.specs.declared.forms.Operands.TheVariants.{OneLowByte}
use Rattle.ia_list.specs.Parts.{name, parts}

-- Places: eight hexadecimal digits in small letters, two for each byte, the highest byte first.

abbrev pub hex_digit : ℕ → ℕ
hex_digit d = if nat_lt d 10 then 48 + d else 87 + d

abbrev pub hex_digits : List ℕ → List ℕ
hex_digits [] = []
hex_digits (b ∷ bytes) = hex_digit (b / 16) ∷ hex_digit (b % 16) ∷ hex_digits bytes

abbrev pub hexadecimal : ℕ → List ℕ
hexadecimal n = hex_digits (to_be_bytes w32 n)

-- Registers.

abbrev pub register_name : Reg → List ℕ
register_name Eax = codes "eax"
register_name Ecx = codes "ecx"
register_name Edx = codes "edx"
register_name Ebx = codes "ebx"
register_name Esp = codes "esp"
register_name Ebp = codes "ebp"
register_name Esi = codes "esi"
register_name Edi = codes "edi"

-- the low byte of a register that has one
abbrev pub low_name : Reg → List ℕ
low_name Eax = codes "al"
low_name Ecx = codes "cl"
low_name Edx = codes "dl"
low_name Ebx = codes "bl"
low_name _ = []

-- Operands in memory: the parts of the address, joined by +, in brackets.

abbrev pub base_text : Option Reg → List ℕ
base_text None = []
base_text (Some r) = register_name r ++ codes "+"

abbrev pub index_text : Option (Reg × ℕ) → List ℕ
index_text None = []
index_text (Some x) = register_name x.0 ++ codes "*" ++ decimal x.1 ++ codes "+"

abbrev pub width_text : Width → List ℕ
width_text D0 = codes "d0:"
width_text D8 = codes "d8:"
width_text D32 = codes "d32:"

abbrev pub address_text : MemAddr → List ℕ
address_text a =
    codes "[" ++ base_text a.base ++ index_text a.index ++ width_text a.width
    ++ signed_decimal a.disp ++ codes "]"

abbrev pub operand_text : Rm → List ℕ
operand_text (rm.Reg r) = register_name r
operand_text (rm.Mem a) = address_text a

-- The operands of an instruction: a blank before the first, a comma and a blank before the others.

abbrev pub operands_text : Operands → List ℕ
operands_text Nothing = []
operands_text (One a) = codes " " ++ operand_text a
operands_text (Two a b) = codes " " ++ operand_text a ++ codes ", " ++ operand_text b
operands_text (Number n) = codes " " ++ signed_decimal n
operands_text (OneNumber a n) = codes " " ++ operand_text a ++ codes ", " ++ signed_decimal n
operands_text (TwoNumber a b n) =
    codes " " ++ operand_text a ++ codes ", " ++ operand_text b ++ codes ", " ++ signed_decimal n
operands_text (Target t) = codes " " ++ hexadecimal t
operands_text (LowByte r) = codes " " ++ low_name r
operands_text (OneLowByte a r) = codes " " ++ operand_text a ++ codes ", " ++ low_name r

-- an instruction that ends at this place
abbrev pub instruction_text : ℕ → Ins → List ℕ
instruction_text next i = name (parts next i).0 ++ operands_text (parts next i).1

-- the line of an instruction that stands at this place
unfoldable pub line : ℕ → Ins → List ℕ
line place i =
    hexadecimal place ++ codes " " ++ instruction_text (place + length (bytes_of i)) i
    ++ codes "\n"

-- the line of the data words
unfoldable pub data_line : ℕ → List ℕ
data_line words = codes "data " ++ decimal words ++ codes "\n"
