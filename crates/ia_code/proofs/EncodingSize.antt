-- The size of what the table spells, and that it is made of bytes.
use Rattle.std.proofs.Common.{◌≡◌, true, ℕ, zero, suc, ◌+◌, ◌*◌, ◌^◌, ◌≤◌, ◌<◌, List, [], ◌∷◌, ◌++◌}
use Rattle.std.proofs.Common.{length, Option, Some, None, arith, length-append}
use Rattle.std.specs.Prelude.{ℤ}
use Rattle.std.proofs.lemmas.Int.{ints}
use Rattle.std.specs.Int.{w8, w16, to_le_bytes, cast_unsigned}
use Rattle.std.specs.Int.RustNames.{FitsSigned}
use Rattle.ia_code.specs.declared.ins.Reg.{Reg}
use Rattle.ia_code.specs.declared.ins.Reg.TheVariants.{Esp}
use Rattle.ia_code.specs.declared.ins.Width.{Width}
use Rattle.ia_code.specs.declared.ins.Width.TheVariants.{D0, D8, D32}
use Rattle.ia_code.specs.declared.ins.Rm.{Rm}
use Rattle.ia_code.specs.declared.ins.Rm.TheVariants as rm
use Rattle.ia_code.specs.declared.ins.Ins.{Ins}
use Rattle.ia_code.specs.declared.ins.Ins.TheVariants.{MovRmR, MovRRm, MovRI, MovRmI, AluRmR}
use Rattle.ia_code.specs.declared.ins.Ins.TheVariants.{AluRRm, AluRmI, AluRmB, ImulRRm, ImulI}
use Rattle.ia_code.specs.declared.ins.Ins.TheVariants.{ImulB, Neg, Shift, Idiv, Cdq, Lea, PushR}
use Rattle.ia_code.specs.declared.ins.Ins.TheVariants.{PopR}
use Rattle.ia_code.specs.declared.ins.Ins.TheVariants.{PushM, PushI, Call, Ret, RetI, Jmp, Jcc, Set}
use Rattle.ia_code.specs.declared.ins.Ins.TheVariants.{Movzx, Xchg, Test, Int}
use Rattle.ia_code.specs.DecodeTable.{reg_number, op_number, cond_number, scale_number, mod_number}
use Rattle.ia_code.specs.DecodeTable.{fields, imm8, imm32, displacement, address, operand, bytes_of}
use Rattle.ia_code.specs.DecodeTable.{Holds, IsOperand, IsSound, shift_number}
use Rattle.ia_code.specs.DecodeTable.{IsBytes, IsCode}
use Rattle.ia_code.specs.Services.{is_service}
use Rattle.std.proofs.lemmas.Bool.Decides.{nat_tests}
use Rattle.ia_code.proofs.FieldNumbers.{reg_small, mod_small, scale_small, op_small, cond_small}
use Rattle.ia_code.proofs.FieldNumbers.{shift_small}

-- bytes, at most so many
record Few (most : ℕ) (bytes : List ℕ) : Type 0 where
  few : length bytes ≤ most
  all : IsBytes bytes

none : Few 0 []
none = record { few = omega arith; all = λ k. omega arith }

bytes_on : (n : ℕ) (rest : List ℕ) → n < 2 ^ 8 → IsBytes rest → IsBytes (n ∷ rest)
bytes_on n rest h r zero = h
bytes_on n rest h r (suc k) = r k

on : (most n : ℕ) (rest : List ℕ) → n < 2 ^ 8 → Few most rest → Few (1 + most) (n ∷ rest)
on most n rest h r = record { few = omega (arith, r.few); all = bytes_on n rest h r.all }

bytes_two : (a b : List ℕ) → IsBytes a → IsBytes b → IsBytes (a ++ b)
bytes_two [] b h k = k
bytes_two (n ∷ a) b h k = bytes_on n (a ++ b) (h 0) (bytes_two a b (λ i. h (suc i)) k)

two : (m n : ℕ) (a b : List ℕ) → Few m a → Few n b → Few (m + n) (a ++ b)
two m n a b s t = record {
  few = omega (arith, s.few, t.few, length-append a b);
  all =
      bytes_two a b s.all t.all;
}

wider : (m n : ℕ) (bytes : List ℕ) → m ≤ n → Few m bytes → Few n bytes
wider m n bytes h f = record { few = omega (arith, f.few); all = f.all }

short_fits : (n : ℤ) → FitsSigned w8 n → cast_unsigned w8 n < 2 ^ 8
short_fits n f = omega (arith, ints)

few_short : (n : ℤ) → FitsSigned w8 n → Few 1 (imm8 n)
few_short n f = on 0 (cast_unsigned w8 n) [] (short_fits n f) none

few_half : (n : ℕ) → Few 2 (to_le_bytes w16 n)
few_half n = on 1 _ _ (omega arith) (on 0 _ _ (omega arith) none)

few_word : (n : ℤ) → Few 4 (imm32 n)
few_word n = on 3 _ _ (omega arith)
    (on 2 _ _ (omega arith) (on 1 _ _ (omega arith) (on 0 _ _ (omega arith) none)))

fields_small : (high middle low : ℕ) → high < 4 → middle < 8 → low < 8 → fields high middle low <
    2 ^ 8
unfolding fields
fields_small high middle low h m l = omega arith

few_displacement : (w : Width) (d : ℤ) → Holds w d → Few 4 (displacement w d)
few_displacement D0 d h = wider 0 4 [] (omega arith) none
few_displacement D8 d h = wider 1 4 (imm8 d) (omega arith) (few_short d h)
few_displacement D32 d h = few_word d

mod_below : (w : Width) → mod_number w < 4
mod_below w = omega (arith, mod_small w)

module _ (reg : ℕ) (rs : reg < 8) where
  few_address : (b : Option Reg) (x : Option (Reg × ℕ)) (w : Width) (d : ℤ) → Holds w d →
      Few 6 (address reg b x w d)
  few_address None None w d h =
      wider 5 6 _ (omega arith)
      (on 4 (fields 0 reg 5) (imm32 d) (fields_small 0 reg 5 (omega arith) rs (omega arith))
      (few_word d))
  few_address None (Some x) w d h =
      on 5 (fields 0 reg 4) _ (fields_small 0 reg 4 (omega arith) rs (omega arith))
      (on 4 _ (imm32 d) (fields_small (scale_number x.1) (reg_number x.0) 5 (scale_small x.1)
      (reg_small x.0) (omega arith)) (few_word d))
  few_address (Some Esp) None w d h =
      on 5 (fields (mod_number w) reg 4) _
      (fields_small (mod_number w) reg 4 (mod_below w) rs (omega arith))
      (on 4 (fields 0 4 4) (displacement w d)
      (fields_small 0 4 4 (omega arith) (omega arith) (omega arith)) (few_displacement w d h))
  few_address (Some b) None w d h =
      wider 5 6 _ (omega arith)
      (on 4 (fields (mod_number w) reg (reg_number b)) (displacement w d)
      (fields_small (mod_number w) reg (reg_number b) (mod_below w) rs (reg_small b))
      (few_displacement w d h))
  few_address (Some b) (Some x) w d h =
      on 5 (fields (mod_number w) reg 4) _
      (fields_small (mod_number w) reg 4 (mod_below w) rs (omega arith))
      (on 4 _ (displacement w d)
      (fields_small (scale_number x.1) (reg_number x.0) (reg_number b) (scale_small x.1)
      (reg_small x.0) (reg_small b)) (few_displacement w d h))

  few_operand : (r : Rm) → IsOperand r → Few 6 (operand reg r)
  few_operand (rm.Reg r) is =
      wider 1 6 _ (omega arith)
      (on 0 (fields 3 reg (reg_number r)) []
      (fields_small 3 reg (reg_number r) (omega arith) rs (reg_small r)) none)
  few_operand (rm.Mem a) is = few_address a.base a.index a.width a.disp is.disp

-- an opcode and what follows it
coded : (most n : ℕ) (rest : List ℕ) → most ≤ 10 → n < 2 ^ 8 → Few most rest → IsCode (n ∷ rest)
coded most n rest m h f =
    record { some = omega arith; most = omega (arith, f.few); all = bytes_on n rest h f.all }

operand_code : (op reg : ℕ) (r : Rm) → op < 2 ^ 8 → reg < 8 → IsOperand r →
    IsCode (op ∷ operand reg r)
operand_code op reg r h rs is = coded 6 op (operand reg r) (omega arith) h (few_operand reg rs r is)

operand_word_code : (op reg : ℕ) (r : Rm) (n : ℤ) → op < 2 ^ 8 → reg < 8 → IsOperand r →
    IsCode (op ∷ (operand reg r ++ imm32 n))
operand_word_code op reg r n h rs is = coded 10 op (operand reg r ++ imm32 n) (omega arith) h
    (two 6 4 (operand reg r) (imm32 n) (few_operand reg rs r is) (few_word n))

operand_short_code : (op reg : ℕ) (r : Rm) (n : ℤ) → op < 2 ^ 8 → reg < 8 → IsOperand r →
    FitsSigned w8 n → IsCode (op ∷ (operand reg r ++ imm8 n))
operand_short_code op reg r n h rs is f = coded 7 op (operand reg r ++ imm8 n) (omega arith) h
    (two 6 1 (operand reg r) (imm8 n) (few_operand reg rs r is) (few_short n f))

word_code : (op : ℕ) (n : ℤ) → op < 2 ^ 8 → IsCode (op ∷ imm32 n)
word_code op n h = coded 4 op (imm32 n) (omega arith) h (few_word n)

bare_code : (op : ℕ) → op < 2 ^ 8 → IsCode (op ∷ [])
bare_code op h = coded 0 op [] (omega arith) h none

two_byte_code : (op reg : ℕ) (r : Rm) → op < 2 ^ 8 → reg < 8 → IsOperand r →
    IsCode (0x0f ∷ op ∷ operand reg r)
two_byte_code op reg r h rs is = coded 7 0x0f (op ∷ operand reg r) (omega arith) (omega arith)
    (on 6 op (operand reg r) h (few_operand reg rs r is))

service_small : (n : ℕ) → is_service n ≡ true → n < 2 ^ 8
service_small n is = grind (arith, nat_tests)

-- what the table spells has 1 to 11 bytes
pub code_of : (i : Ins) → IsSound i → IsCode (bytes_of i)
code_of (MovRmR to from) is = operand_code 0x89 (reg_number from) to (omega arith) (reg_small from)
    is
code_of (MovRRm to from) is = operand_code 0x8b (reg_number to) from (omega arith) (reg_small to) is
code_of (MovRI to n) is = word_code (0xb8 + reg_number to) n (omega (arith, reg_small to))
code_of (MovRmI to n) is = operand_word_code 0xc7 0 to n (omega arith) (omega arith) is.0
code_of (AluRmR op to from) is = operand_code (8 * op_number op + 0x01) (reg_number from) to
    (omega (arith, op_small op)) (reg_small from) is
code_of (AluRRm op to from) is = operand_code (8 * op_number op + 0x03) (reg_number to) from
    (omega (arith, op_small op)) (reg_small to) is
code_of (AluRmI op to n) is = operand_word_code 0x81 (op_number op) to n (omega arith) (op_small op)
    is.0
code_of (AluRmB op to n) is = operand_short_code 0x83 (op_number op) to n (omega arith)
    (op_small op) is.0 is.1
code_of (ImulRRm to from) is = two_byte_code 0xaf (reg_number to) from (omega arith) (reg_small to)
    is
code_of (ImulI to from n) is = operand_word_code 0x69 (reg_number to) from n (omega arith)
    (reg_small to) is.0
code_of (ImulB to from n) is = operand_short_code 0x6b (reg_number to) from n (omega arith)
    (reg_small to) is.0 is.1
code_of (Neg to) is = operand_code 0xf7 3 to (omega arith) (omega arith) is
code_of (Shift op to n) is = coded 7 0xc1 (operand (shift_number op) to ++ n ∷ []) (omega arith)
    (omega arith) (two 6 1 (operand (shift_number op) to) (n ∷ [])
    (few_operand (shift_number op) (shift_small op) to is.0) (on 0 n [] is.1 none))
code_of (Idiv by) is = operand_code 0xf7 7 by (omega arith) (omega arith) is
code_of Cdq is = bare_code 0x99 (omega arith)
code_of (Lea to from) is = operand_code 0x8d (reg_number to) (rm.Mem from) (omega arith)
    (reg_small to) is
code_of (PushR from) is = bare_code (0x50 + reg_number from) (omega (arith, reg_small from))
code_of (PopR to) is = bare_code (0x58 + reg_number to) (omega (arith, reg_small to))
code_of (PushM from) is = operand_code 0xff 6 (rm.Mem from) (omega arith) (omega arith) is
code_of (PushI n) is = word_code 0x68 n (omega arith)
code_of (Call to) is = word_code 0xe8 to (omega arith)
code_of Ret is = bare_code 0xc3 (omega arith)
code_of (RetI n) is = coded 2 0xc2 (to_le_bytes w16 n) (omega arith) (omega arith) (few_half n)
code_of (Jmp to) is = word_code 0xe9 to (omega arith)
code_of (Jcc c to) is = coded 5 0x0f _ (omega arith) (omega arith)
    (on 4 (0x80 + cond_number c) (imm32 to) (omega (arith, cond_small c)) (few_word to))
code_of (Set c to) is = two_byte_code (0x90 + cond_number c) 0 (rm.Reg to)
    (omega (arith, cond_small c)) (omega arith) tt
code_of (Movzx to from) is = two_byte_code 0xb6 (reg_number to) (rm.Reg from) (omega arith)
    (reg_small to) tt
code_of (Xchg to with) is = operand_code 0x87 (reg_number with) (rm.Reg to) (omega arith)
    (reg_small with) tt
code_of (Test left right) is = operand_code 0x85 (reg_number right) (rm.Reg left) (omega arith)
    (reg_small right) tt
code_of (Int n) is = coded 1 0xcd (n ∷ []) (omega arith) (omega arith)
    (on 0 n [] (service_small n is) none)
