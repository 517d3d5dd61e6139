-- A line is at least twice as long as the code of its instruction.
use Rattle.std.proofs.Common.{◌≡◌, ℕ, ◌+◌, ◌*◌, ◌≤◌, ◌<◌, List, [], ◌∷◌, ◌++◌, length, ap, arith}
use Rattle.std.proofs.Common.{length-append}
use Rattle.std.specs.Prelude.{ℤ, pos, negsuc}
use Rattle.std.specs.Int.{w32}
use Rattle.std.specs.Int.RustNames.{FitsSigned}
use Rattle.std.specs.Fmt.{signed_decimal}
use Rattle.std.proofs.lemmas.Fmt.{decimal_nonempty}
use Rattle.std.proofs.lemmas.Int.{ints}
use Rattle.ia_code.specs.declared.ins.Reg.{Reg}
use Rattle.ia_code.specs.declared.ins.Reg.TheVariants.{Eax, Ebx, Esi, Edi}
use Rattle.ia_code.specs.declared.ins.Width.{Width}
use Rattle.ia_code.specs.declared.ins.Width.TheVariants.{D0}
use Rattle.ia_code.specs.declared.ins.Rm.{Rm}
use Rattle.ia_code.specs.declared.ins.Rm.TheVariants as rm
use Rattle.ia_code.specs.declared.ins.Ins.{Ins}
use Rattle.ia_code.specs.declared.ins.Ins.TheVariants.{ImulI, Neg, Idiv, Cdq, PushM}
use Rattle.ia_code.specs.DecodeTable.{reg_number, imm32, operand, bytes_of, IsOperand, IsSound}
use Rattle.ia_code.specs.Listing.{bytes_of_all, AreSound}
use Rattle.ia_code.proofs.EncodingSize.{code_of}
use Rattle.ia_list.specs.declared.forms.Form.{Form}
use Rattle.ia_list.specs.declared.forms.Form.TheVariants as form
use Rattle.ia_list.specs.declared.forms.Operands.{Operands}
use Rattle.ia_list.specs.declared.forms.Operands.TheVariants.{Nothing, One, Two, Number, OneNumber}
use Rattle.ia_list.specs.declared.forms.Operands.TheVariants.{TwoNumber, Target, LowByte}
use Rattle.ia_list.specs.declared.forms.Operands.TheVariants.{OneLowByte}
use Rattle.ia_list.specs.Parts.{name, parts}
use Rattle.ia_list.specs.Text.{register_name, width_text, operand_text, operands_text, line}
use Rattle.ia_list.specs.ListText.{lines}
use Rattle.ia_list.proofs.OperandsRead.{AreOperands}
use Rattle.ia_list.proofs.NamesRead.{least_name, names}
use Rattle.ia_list.proofs.LineRead.{are_operands}

-- Operands.

register_long : (r : Reg) → 3 ≤ length (register_name r)
register_long Eax = omega arith
register_long _ = omega arith

width_long : (w : Width) → 3 ≤ length (width_text w)
width_long D0 = omega arith
width_long _ = omega arith

operand_long : (a : Rm) → 3 ≤ length (operand_text a)
operand_long (rm.Reg r) = register_long r
operand_long (rm.Mem a) = simp length-append (omega (arith, width_long a.width))

signed_long : (n : ℤ) → FitsSigned w32 n → 1 ≤ length (signed_decimal n)
signed_long (pos n) f = omega (arith, decimal_nonempty n (omega arith))
signed_long (negsuc n) f = omega arith

-- how long the operands are at least
abbrev least : Operands → ℕ
least Nothing = 0
least (One a) = 4
least (Two a b) = 9
least (Number n) = 2
least (OneNumber a n) = 7
least (TwoNumber a b n) = 12
least (Target t) = 9
least (LowByte r) = 1
least (OneLowByte a r) = 6

operands_long : (o : Operands) → AreOperands o → least o ≤ length (operands_text o)
operands_long (One a) h = omega (arith, operand_long a)
operands_long (Two a b) h = simp length-append (omega (arith, operand_long a, operand_long b))
operands_long (Number n) h = omega (arith, signed_long n h)
operands_long (OneNumber a n) h =
    simp length-append (omega (arith, operand_long a, signed_long n h.1))
operands_long (TwoNumber a b n) h =
    simp length-append (omega (arith, operand_long a, operand_long b, signed_long n h.2))
operands_long (OneLowByte a r) h = simp length-append (omega (arith, operand_long a))
operands_long _ h = omega arith

-- Code.

operand_size : (r : Reg) (a : Rm) → IsOperand a → length (operand (reg_number r) a) ≤ 6
operand_size r a is = omega (
  arith,
  (code_of (ImulI r a (pos 0)) (is, omega (arith, ints))).most,
  length-append (operand (reg_number r) a) (imm32 (pos 0)),
)

-- how long the code of a form is at most
abbrev most : Form → ℕ
most form.Neg = 7
most form.Idiv = 7
most form.Cdq = 1
most form.PushR = 1
most form.PushM = 7
most form.PushI = 5
most form.Pop = 1
most form.Call = 5
most form.Ret = 1
most form.RetI = 3
most form.Jmp = 5
most (form.Jcc c) = 6
most (form.Set c) = 3
most form.Movzx = 4
most form.Int = 2
most _ = 11

code_size : (next : ℕ) (i : Ins) → IsSound i → length (bytes_of i) ≤ most (parts next i).0
code_size next (Neg to) is = omega (arith, operand_size Ebx to is)
code_size next (Idiv by) is = omega (arith, operand_size Edi by is)
code_size next (PushM from) is = omega (arith, operand_size Esi (rm.Mem from) is)
code_size next i is = omega (arith, (code_of i is).most)

-- for each form, what is needed of a name, operands and ten more bytes
enough : (next : ℕ) (i : Ins) →
    2 * most (parts next i).0 ≤ 10 + least_name (parts next i).0 + least (parts next i).1
enough next Cdq = omega arith
enough next _ = omega arith

line_long : (place : ℕ) (i : Ins) →
    length (line place i) ≡ 10 + length (name (parts (place + length (bytes_of i)) i).0) + length
    (operands_text (parts (place + length (bytes_of i)) i).1)
unfolding line
line_long place i =
    let f = name (parts (place + length (bytes_of i)) i).0 in
    let o = operands_text (parts (place + length (bytes_of i)) i).1 in
    omega (arith, length-append (f ++ o) (10 ∷ []), length-append f o)

line_size : (place : ℕ) (i : Ins) → IsSound i → 2 * length (bytes_of i) ≤ length (line place i)
line_size place i is =
    let next = place + length (bytes_of i) in
    omega (
      arith,
      code_size next i is,
      enough next i,
      line_long place i,
      (names (parts next i).0).2,
      operands_long (parts next i).1 (are_operands next i is),
    )

pub lines_size : (place : ℕ) (ins : List Ins) → AreSound ins →
    2 * length (bytes_of_all ins) ≤ length (lines place ins)
lines_size place [] s = omega arith
lines_size place (i ∷ ins) s =
    omega (
      arith,
      line_size place i s.0,
      lines_size (place + length (bytes_of i)) ins s.1,
      length-append (bytes_of i) (bytes_of_all ins),
      length-append (line place i) (lines (place + length (bytes_of i)) ins),
    )

-- what is behind a line is shorter
pub behind_line : (place : ℕ) (i : Ins) (bytes rest : List ℕ) → bytes ≡ line place i ++ rest →
    length rest < length bytes
behind_line place i bytes rest e = omega (
  arith,
  ap length e,
  line_long place i,
  length-append (line place i) rest,
)

-- each line has some bytes
pub lines_some : (place : ℕ) (ins : List Ins) → length ins ≤ length (lines place ins)
lines_some place [] = omega arith
lines_some place (i ∷ ins) =
    omega (
      arith,
      line_long place i,
      lines_some (place + length (bytes_of i)) ins,
      length-append (line place i) (lines (place + length (bytes_of i)) ins),
    )
