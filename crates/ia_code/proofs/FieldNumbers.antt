-- Numbers of fields and numbers in the code: what is written is read back.
use Rattle.std.proofs.Common.{◌≡◌, ℕ, ◌^◌, ◌<◌, true, false, List, ◌++◌, length, Some, refl, ap}
use Rattle.std.proofs.Common.{◌∙◌, arith, nat_lt}
use Rattle.std.specs.Prelude.{ℤ}
use Rattle.std.proofs.lemmas.Bool.Decides.{nat_tests}
use Rattle.std.proofs.lemmas.Bool.{le-ltb}
use Rattle.std.proofs.lemmas.Int.{to_z-of_z, ints}
use Rattle.std.proofs.lemmas.Nat.{from_le_bytes-to_le_bytes_2, from_le_bytes-to_le_bytes_4}
use Rattle.std.specs.Int.{w8, w16, w32, to_le_bytes, cast_unsigned, cast_signed}
use Rattle.std.specs.Int.RustNames.{FitsSigned}
use Rattle.pra_base.specs.declared.ids.Cond.{Cond}
use Rattle.pra_base.specs.declared.ids.ShiftOp.{ShiftOp}
use Rattle.pra_base.specs.declared.ids.ShiftOp.TheVariants.{Shl, Shr, Sar}
use Rattle.pra_base.specs.declared.ids.Cond.TheVariants.{B, Ae, E, Ne, Be, A, S, Ns, L, Ge, Le, G}
use Rattle.ia_code.specs.declared.ins.Reg.{Reg}
use Rattle.ia_code.specs.declared.ins.Reg.TheVariants.{Eax, Ecx, Edx, Ebx, Esp, Ebp, Esi, Edi}
use Rattle.ia_code.specs.declared.ins.Width.{Width}
use Rattle.ia_code.specs.declared.ins.Width.TheVariants.{D0, D8, D32}
use Rattle.ia_code.specs.declared.ins.AluOp.{AluOp}
use Rattle.ia_code.specs.declared.ins.AluOp.TheVariants.{Add, Or, And, Sub, Xor, Cmp}
use Rattle.ia_code.specs.DecodeTable.{reg_number, op_number, cond_number, scale_number, mod_number}
use Rattle.ia_code.specs.DecodeTable.{imm8, imm32, is_scale, shift_number}
use Rattle.ia_code.specs.Reading.{reg_of, cond_of, op_of, scale_of, width_of, byte_at, short_at}
use Rattle.ia_code.specs.Reading.{half_at, word_at, shift_of}

pub reg_again : (r : Reg) → reg_of (reg_number r) ≡ r
reg_again r = elim r as (λ r. reg_of (reg_number r) ≡ r) [
  | Eax ↦ refl
  | Ecx ↦ refl
  | Edx ↦ refl
  | Ebx ↦ refl
  | Esp ↦ refl
  | Ebp ↦ refl
  | Esi ↦
      refl
  | Edi ↦ refl
]

pub reg_small : (r : Reg) → reg_number r < 8
reg_small r = elim r as (λ r. reg_number r < 8) [
  | Eax ↦ omega arith
  | Ecx ↦ omega arith
  | Edx ↦
      omega arith
  | Ebx ↦ omega arith
  | Esp ↦ omega arith
  | Ebp ↦ omega arith
  | Esi ↦
      omega arith
  | Edi ↦ omega arith
]

pub width_again : (w : Width) → width_of (mod_number w) ≡ w
width_again D0 = refl
width_again D8 = refl
width_again D32 = refl

pub mod_small : (w : Width) → mod_number w < 3
mod_small D0 = omega arith
mod_small D8 = omega arith
mod_small D32 = omega arith

pub scale_small : (s : ℕ) → scale_number s < 4
scale_small s = grind (arith, nat_tests)

pub scale_again : (s : ℕ) → is_scale s ≡ true → scale_of (scale_number s) ≡ s
scale_again s h = grind (arith, nat_tests)

-- a number that is written is read
pub bits_fit : (n : ℤ) → FitsSigned w32 n → cast_unsigned w32 n < 2 ^ 32
bits_fit n f = omega (arith, ints)

four_again : (u : ℕ) (rest : List ℕ) → u < 2 ^ 32 → word_at (to_le_bytes w32 u ++ rest) ≡
    Some (cast_signed w32 u, rest)
unfolding word_at
four_again u rest h =
    let long : nat_lt (length (to_le_bytes w32 u ++ rest)) 4 ≡ false = le-ltb _ 4 (omega arith) in
    rw long (ap (λ k. Some (cast_signed w32 k, rest)) (from_le_bytes-to_le_bytes_4 u h))

pub word_again : (n : ℤ) (rest : List ℕ) → FitsSigned w32 n → word_at (imm32 n ++ rest) ≡
    Some (n, rest)
word_again n rest f = four_again (cast_unsigned w32 n) rest (bits_fit n f)
    ∙ ap (λ z. Some (z, rest)) (to_z-of_z w32 n f)

pub short_again : (n : ℤ) (rest : List ℕ) → FitsSigned w8 n → short_at (imm8 n ++ rest) ≡
    Some (n, rest)
unfolding short_at byte_at
short_again n rest f = ap (λ z. Some (z, rest)) (to_z-of_z w8 n f)

pub half_again : (n : ℕ) (rest : List ℕ) → n < 2 ^ 16 → half_at (to_le_bytes w16 n ++ rest) ≡
    Some (n, rest)
unfolding half_at
half_again n rest h =
    let long : nat_lt (length (to_le_bytes w16 n ++ rest)) 2 ≡ false = le-ltb _ 2 (omega arith) in
    rw long (ap (λ k. Some (k, rest)) (from_le_bytes-to_le_bytes_2 n h))

pub op_small : (o : AluOp) → op_number o < 8
op_small o = elim o as (λ o. op_number o < 8) [
  | Add ↦ omega arith
  | Or ↦ omega arith
  | And ↦
      omega arith
  | Sub ↦ omega arith
  | Xor ↦ omega arith
  | Cmp ↦ omega arith
]

pub op_again : (o : AluOp) → op_of (op_number o) ≡ Some o
op_again o = elim o as (λ o. op_of (op_number o) ≡ Some o)
    [ Add ↦ refl | Or ↦ refl | And ↦ refl | Sub ↦ refl | Xor ↦ refl | Cmp ↦ refl ]

pub shift_small : (o : ShiftOp) → shift_number o < 8
shift_small o = elim o as (λ o. shift_number o < 8)
    [ Shl ↦ omega arith | Shr ↦ omega arith | Sar ↦ omega arith ]

pub shift_again : (o : ShiftOp) → shift_of (shift_number o) ≡ Some o
shift_again o =
    elim o as (λ o. shift_of (shift_number o) ≡ Some o) [ Shl ↦ refl | Shr ↦ refl | Sar ↦ refl ]

-- From a field's number and back.

pub reg_back : (n : ℕ) → n < 8 → reg_number (reg_of n) ≡ n
reg_back n h = grind (arith, nat_tests)

pub scale_back : (n : ℕ) → n < 4 → scale_number (scale_of n) ≡ n
scale_back n h = grind (arith, nat_tests)

pub scale_stands : (n : ℕ) → is_scale (scale_of n) ≡ true
scale_stands n = grind (arith, nat_tests)

pub mode_back : (n : ℕ) → n < 3 → mod_number (width_of n) ≡ n
mode_back n h = grind (arith, nat_tests)

pub op_back : (n : ℕ) (o : AluOp) → op_of n ≡ Some o → op_number o ≡ n
op_back n o e = grind (arith, nat_tests)

pub shift_back : (n : ℕ) (o : ShiftOp) → shift_of n ≡ Some o → shift_number o ≡ n
shift_back n o e = grind (arith, nat_tests)

pub cond_back : (n : ℕ) (c : Cond) → cond_of n ≡ Some c → cond_number c ≡ n
cond_back n c e = grind (arith, nat_tests)

pub cond_small : (c : Cond) → cond_number c < 16
cond_small c = elim c as (λ c. cond_number c < 16) [
  | B ↦ omega arith
  | Ae ↦ omega arith
  | E ↦ omega arith
  | Ne ↦ omega arith
  | Be ↦
      omega arith
  | A ↦ omega arith
  | S ↦ omega arith
  | Ns ↦ omega arith
  | L ↦ omega arith
  | Ge ↦
      omega arith
  | Le ↦ omega arith
  | G ↦ omega arith
]
