-- An instruction that is spelled by the table is read back.
use Rattle.std.proofs.Common.{◌≡◌, ℕ, ◌+◌, ◌*◌, ◌<◌, true, false, List, [], ◌∷◌, ◌++◌, Some, refl}
use Rattle.std.proofs.Common.{◌∙◌, arith, append_assoc}
use Rattle.std.specs.Prelude.{ℤ}
use Rattle.std.specs.Int.{w8, w32}
use Rattle.std.specs.Int.RustNames.{FitsSigned}
use Rattle.pra_base.specs.declared.ids.Cond.{Cond}
use Rattle.pra_base.specs.declared.ids.ShiftOp.{ShiftOp}
use Rattle.pra_base.specs.declared.ids.Cond.TheVariants.{B, Ae, E, Ne, Be, A, S, Ns, L, Ge, Le, G}
use Rattle.ia_code.specs.declared.ins.Reg.{Reg}
use Rattle.ia_code.specs.declared.ins.Reg.TheVariants.{Eax, Ecx, Edx, Ebx, Esp, Ebp, Esi, Edi}
use Rattle.ia_code.specs.declared.ins.MemAddr.{MemAddr}
use Rattle.ia_code.specs.declared.ins.Rm.{Rm}
use Rattle.ia_code.specs.declared.ins.Rm.TheVariants as rm
use Rattle.ia_code.specs.declared.ins.AluOp.{AluOp}
use Rattle.ia_code.specs.declared.ins.AluOp.TheVariants.{Add, Or, And, Sub, Xor, Cmp}
use Rattle.ia_code.specs.declared.ins.Ins.{Ins}
use Rattle.ia_code.specs.declared.ins.Ins.TheVariants.{MovRmR, MovRRm, MovRI, MovRmI, AluRmR}
use Rattle.ia_code.specs.declared.ins.Ins.TheVariants.{AluRRm, AluRmI, AluRmB, ImulRRm, ImulI}
use Rattle.ia_code.specs.declared.ins.Ins.TheVariants.{ImulB, Neg, Shift, Idiv, Cdq, Lea, PushR}
use Rattle.ia_code.specs.declared.ins.Ins.TheVariants.{PopR}
use Rattle.ia_code.specs.declared.ins.Ins.TheVariants.{PushM, PushI, Call, Ret, RetI, Jmp, Jcc, Set}
use Rattle.ia_code.specs.declared.ins.Ins.TheVariants.{Movzx, Xchg, Test, Int}
use Rattle.ia_code.specs.Services.{is_service}
use Rattle.ia_code.specs.DecodeTable.{reg_number, op_number, cond_number, imm8, imm32, operand}
use Rattle.ia_code.specs.DecodeTable.{bytes_of, is_register, has_low_byte, IsAddress, IsOperand}
use Rattle.ia_code.specs.DecodeTable.{IsSound, shift_number}
use Rattle.ia_code.specs.Reading.{reg_of, byte_at, word_at, operand_at, memory_operand_at}
use Rattle.ia_code.specs.Reading.{register_operand_at, alu_word_at, alu_short_at, mov_word_at}
use Rattle.ia_code.specs.Reading.{unary_at, shift_at, set_at, movzx_at, extended_at, alu_at}
use Rattle.ia_code.specs.Reading.{stack_at}
use Rattle.ia_code.specs.Reading.{move_at, constant_at, jump_at, opcode_at, instruction_at}
use Rattle.pra_list.specs.Options.{◌>>=◌}
use Rattle.ia_code.proofs.FieldNumbers.{reg_again, reg_small, op_small, op_again, word_again}
use Rattle.ia_code.proofs.FieldNumbers.{short_again, half_again, shift_small, shift_again}
use Rattle.ia_code.proofs.OperandsSpelledAreRead.{operand_again}

-- Rows with a number in the opcode: how they are read, by cases on what has the number.

alu_left : (op : AluOp) (bytes : List ℕ) → opcode_at (8 * op_number op + 0x01) bytes ≡
    (operand_at bytes >>= λ o. Some (AluRmR op o.1 (reg_of o.0), o.2))
unfolding opcode_at alu_at
alu_left op bytes = elim op as (λ op. opcode_at (8 * op_number op + 0x01) bytes ≡
    (operand_at bytes >>= λ o. Some (AluRmR op o.1 (reg_of o.0), o.2)))
    [ Add ↦ refl | Or ↦ refl | And ↦ refl | Sub ↦ refl | Xor ↦ refl | Cmp ↦ refl ]

alu_right : (op : AluOp) (bytes : List ℕ) → opcode_at (8 * op_number op + 0x03) bytes ≡
    (operand_at bytes >>= λ o. Some (AluRRm op (reg_of o.0) o.1, o.2))
unfolding opcode_at alu_at
alu_right op bytes = elim op as (λ op. opcode_at (8 * op_number op + 0x03) bytes ≡
    (operand_at bytes >>= λ o. Some (AluRRm op (reg_of o.0) o.1, o.2)))
    [ Add ↦ refl | Or ↦ refl | And ↦ refl | Sub ↦ refl | Xor ↦ refl | Cmp ↦ refl ]

mov_row : (r : Reg) (bytes : List ℕ) → opcode_at (0xb8 + reg_number r) bytes ≡
    (word_at bytes >>= λ n. Some (MovRI r n.0, n.1))
unfolding opcode_at constant_at
mov_row r bytes = elim r as (λ r. opcode_at (0xb8 + reg_number r) bytes ≡
    (word_at bytes >>= λ n. Some (MovRI r n.0, n.1))) [
      | Eax ↦ refl
      | Ecx ↦ refl
      | Edx ↦ refl
      | Ebx ↦ refl
      | Esp ↦ refl
      | Ebp ↦ refl
      | Esi ↦
          refl
      | Edi ↦ refl
    ]

push_row : (r : Reg) (bytes : List ℕ) → is_register r Esp ≡ false →
    opcode_at (0x50 + reg_number r) bytes ≡ Some (PushR r, bytes)
unfolding opcode_at stack_at
push_row r bytes = elim r as (λ r. is_register r Esp ≡ false →
    opcode_at (0x50 + reg_number r) bytes ≡ Some (PushR r, bytes)) [
      | Eax ↦ λ f. refl
      | Ecx ↦ λ f. refl
      | Edx ↦ λ f. refl
      | Ebx ↦ λ f. refl
      | Esp ↦ λ f. cc
      | Ebp ↦
          λ f. refl
      | Esi ↦ λ f. refl
      | Edi ↦ λ f. refl
    ]

pop_row : (r : Reg) (bytes : List ℕ) → is_register r Esp ≡ false →
    opcode_at (0x58 + reg_number r) bytes ≡ Some (PopR r, bytes)
unfolding opcode_at stack_at
pop_row r bytes = elim r as (λ r. is_register r Esp ≡ false →
    opcode_at (0x58 + reg_number r) bytes ≡ Some (PopR r, bytes)) [
      | Eax ↦ λ f. refl
      | Ecx ↦ λ f. refl
      | Edx ↦ λ f. refl
      | Ebx ↦ λ f. refl
      | Esp ↦ λ f. cc
      | Ebp ↦
          λ f. refl
      | Esi ↦ λ f. refl
      | Edi ↦ λ f. refl
    ]

jcc_row : (c : Cond) (bytes : List ℕ) → extended_at (0x80 + cond_number c) bytes ≡
    (word_at bytes >>= λ d. Some (Jcc c d.0, d.1))
unfolding extended_at
jcc_row c bytes = elim c as (λ c. extended_at (0x80 + cond_number c) bytes ≡
    (word_at bytes >>= λ d. Some (Jcc c d.0, d.1))) [
      | B ↦ refl
      | Ae ↦ refl
      | E ↦ refl
      | Ne ↦ refl
      | Be ↦ refl
      | A ↦ refl
      | S ↦ refl
      | Ns ↦
          refl
      | L ↦ refl
      | Ge ↦ refl
      | Le ↦ refl
      | G ↦ refl
    ]

set_row : (c : Cond) (bytes : List ℕ) → extended_at (0x90 + cond_number c) bytes ≡ set_at c bytes
unfolding extended_at
set_row c bytes = elim c as (λ c. extended_at (0x90 + cond_number c) bytes ≡ set_at c bytes) [
  | B ↦ refl
  | Ae ↦ refl
  | E ↦ refl
  | Ne ↦ refl
  | Be ↦ refl
  | A ↦ refl
  | S ↦ refl
  | Ns ↦
      refl
  | L ↦ refl
  | Ge ↦ refl
  | Le ↦ refl
  | G ↦ refl
]

-- The operand of each kind, in any row.

register_again : (reg r : Reg) (rest : List ℕ) →
    register_operand_at (operand (reg_number reg) (rm.Reg r) ++ rest) ≡
    Some (reg_number reg, r, rest)
unfolding register_operand_at
register_again reg r rest = rw (operand_again (reg_number reg) (reg_small reg) rest (rm.Reg r) tt)
    refl

memory_again : (reg : ℕ) → reg < 8 → (a : MemAddr) (rest : List ℕ) → IsAddress a →
    memory_operand_at (operand reg (rm.Mem a) ++ rest) ≡ Some (reg, a, rest)
unfolding memory_operand_at
memory_again reg h a rest is = rw (operand_again reg h rest (rm.Mem a) is) refl

-- Rows with a number behind the operand, and those with a test.

module _ (op : AluOp) (to : Rm) (rest : List ℕ) (is : IsOperand to) where
  alu_word_again : (n : ℤ) → FitsSigned w32 n →
      alu_word_at ((operand (op_number op) to ++ imm32 n) ++ rest) ≡ Some (AluRmI op to n, rest)
  unfolding alu_word_at
  alu_word_again n f =
      rw (
        append_assoc (operand (op_number op) to) (imm32 n) rest,
        operand_again (op_number op)
            (op_small op) (imm32 n ++ rest) to is,
        op_again op,
        word_again n rest f,
      ) refl

  alu_short_again : (n : ℤ) → FitsSigned w8 n →
      alu_short_at ((operand (op_number op) to ++ imm8 n) ++ rest) ≡ Some (AluRmB op to n, rest)
  unfolding alu_short_at
  alu_short_again n f =
      rw (
        append_assoc (operand (op_number op) to) (imm8 n) rest,
        operand_again (op_number op)
            (op_small op) (imm8 n ++ rest) to is,
        op_again op,
        short_again n rest f,
      ) refl

shift_again_at : (op : ShiftOp) (to : Rm) (n : ℕ) (rest : List ℕ) → IsOperand to →
    shift_at ((operand (shift_number op) to ++ n ∷ []) ++ rest) ≡ Some (Shift op to n, rest)
unfolding shift_at byte_at
shift_again_at op to n rest is =
    rw (
      append_assoc (operand (shift_number op) to) (n ∷ []) rest,
      operand_again (shift_number op)
          (shift_small op) (n ∷ rest) to is,
      shift_again op,
    ) refl

mov_word_again : (to : Rm) (n : ℤ) (rest : List ℕ) → IsOperand to → FitsSigned w32 n →
    mov_word_at ((operand 0 to ++ imm32 n) ++ rest) ≡ Some (MovRmI to n, rest)
unfolding mov_word_at
mov_word_again to n rest is f =
    rw (
      append_assoc (operand 0 to) (imm32 n) rest,
      operand_again 0 (omega arith) (imm32 n ++ rest)
          to is,
      word_again n rest f,
    ) refl

module _ (to : Reg) (from : Rm) (rest : List ℕ) (is : IsOperand from) where
  imul_word_again : (n : ℤ) → FitsSigned w32 n →
      opcode_at 0x69 ((operand (reg_number to) from ++ imm32 n) ++ rest) ≡
      Some (ImulI to from n, rest)
  unfolding opcode_at stack_at
  imul_word_again n f =
      rw (
        append_assoc (operand (reg_number to) from) (imm32 n) rest,
        operand_again (reg_number to)
            (reg_small to) (imm32 n ++ rest) from is,
        word_again n rest f,
        reg_again to,
      ) refl

  imul_short_again : (n : ℤ) → FitsSigned w8 n →
      opcode_at 0x6b ((operand (reg_number to) from ++ imm8 n) ++ rest) ≡
      Some (ImulB to from n, rest)
  unfolding opcode_at stack_at
  imul_short_again n f =
      rw (
        append_assoc (operand (reg_number to) from) (imm8 n) rest,
        operand_again (reg_number to)
            (reg_small to) (imm8 n ++ rest) from is,
        short_again n rest f,
        reg_again to,
      ) refl

set_again : (c : Cond) (to : Reg) (rest : List ℕ) → has_low_byte to ≡ true →
    set_at c (operand 0 (rm.Reg to) ++ rest) ≡ Some (Set c to, rest)
unfolding set_at
set_again c to rest low = rw (register_again Eax to rest, low) refl

movzx_again : (to from : Reg) (rest : List ℕ) → has_low_byte from ≡ true →
    movzx_at (operand (reg_number to) (rm.Reg from) ++ rest) ≡ Some (Movzx to from, rest)
unfolding movzx_at
movzx_again to from rest low = rw (register_again to from rest, low, reg_again to) refl

int_again : (n : ℕ) (rest : List ℕ) → is_service n ≡ true → opcode_at 0xcd (n ∷ rest) ≡
    Some (Int n, rest)
unfolding opcode_at constant_at byte_at
int_again n rest is = rw is refl

-- what the table spells is read back, whatever follows
pub one_spelling_of : (i : Ins) → IsSound i → (rest : List ℕ) →
    instruction_at (bytes_of i ++ rest) ≡ Some (i, rest)
unfolding instruction_at byte_at opcode_at alu_at stack_at move_at constant_at jump_at extended_at
    unary_at
one_spelling_of (MovRmR to from) is rest =
    rw (operand_again (reg_number from) (reg_small from) rest to is, reg_again from) refl
one_spelling_of (MovRRm to from) is rest =
    rw (operand_again (reg_number to) (reg_small to) rest from is, reg_again to) refl
one_spelling_of (MovRI to n) is rest = mov_row to (imm32 n ++ rest) ∙ rw (word_again n rest is) refl
one_spelling_of (MovRmI to n) is rest = mov_word_again to n rest is.0 is.1
one_spelling_of (AluRmR op to from) is rest =
    alu_left op (operand (reg_number from) to ++ rest)
    ∙ rw (operand_again (reg_number from) (reg_small from) rest to is, reg_again from) refl
one_spelling_of (AluRRm op to from) is rest =
    alu_right op (operand (reg_number to) from ++ rest)
    ∙ rw (operand_again (reg_number to) (reg_small to) rest from is, reg_again to) refl
one_spelling_of (AluRmI op to n) is rest = alu_word_again op to rest is.0 n is.1
one_spelling_of (AluRmB op to n) is rest = alu_short_again op to rest is.0 n is.1
one_spelling_of (ImulRRm to from) is rest =
    rw (operand_again (reg_number to) (reg_small to) rest from is, reg_again to) refl
one_spelling_of (ImulI to from n) is rest = imul_word_again to from rest is.0 n is.1
one_spelling_of (ImulB to from n) is rest = imul_short_again to from rest is.0 n is.1
one_spelling_of (Neg to) is rest = rw (operand_again 3 (omega arith) rest to is) refl
one_spelling_of (Shift op to n) is rest = shift_again_at op to n rest is.0
one_spelling_of (Idiv by) is rest = rw (operand_again 7 (omega arith) rest by is) refl
one_spelling_of Cdq is rest = refl
one_spelling_of (Lea to from) is rest =
    rw (memory_again (reg_number to) (reg_small to) from rest is, reg_again to) refl
one_spelling_of (PushR from) is rest = push_row from rest is
one_spelling_of (PopR to) is rest = pop_row to rest is
one_spelling_of (PushM from) is rest = rw (memory_again 6 (omega arith) from rest is) refl
one_spelling_of (PushI n) is rest = rw (word_again n rest is) refl
one_spelling_of (Call to) is rest = rw (word_again to rest is) refl
one_spelling_of Ret is rest = refl
one_spelling_of (RetI n) is rest = rw (half_again n rest is) refl
one_spelling_of (Jmp to) is rest = rw (word_again to rest is) refl
one_spelling_of (Jcc c to) is rest = jcc_row c (imm32 to ++ rest) ∙ rw (word_again to rest is) refl
one_spelling_of (Set c to) is rest = set_row c (operand 0 (rm.Reg to) ++ rest)
    ∙ set_again c to rest is
one_spelling_of (Movzx to from) is rest = movzx_again to from rest is
one_spelling_of (Xchg to with) is rest = rw (register_again with to rest, reg_again with) refl
one_spelling_of (Test left right) is rest = rw (register_again right left rest, reg_again right)
    refl
one_spelling_of (Int n) is rest = int_again n rest is
