-- An operand that is spelled by the table is read back.
use Rattle.std.proofs.Common.{◌≡◌, ℕ, ◌/◌, ◌%◌, ◌<◌, true, false, List, ◌∷◌, ◌++◌, Option, Some}
use Rattle.std.proofs.Common.{None, refl, sym, ap, ◌∙◌, arith}
use Rattle.std.specs.Prelude.{ℤ, ◌==◌}
use Rattle.std.proofs.lemmas.Int.{to_z-of_z}
use Rattle.std.specs.Int.{w8, w32}
use Rattle.std.specs.Int.RustNames.{FitsSigned}
use Rattle.ia_code.specs.declared.ins.Reg.{Reg}
use Rattle.ia_code.specs.declared.ins.Reg.TheVariants.{Eax, Ecx, Edx, Ebx, Esp, Ebp, Esi, Edi}
use Rattle.ia_code.specs.declared.ins.Width.{Width}
use Rattle.ia_code.specs.declared.ins.Width.TheVariants.{D0, D8, D32}
use Rattle.ia_code.specs.declared.ins.MemAddr.{MemAddr}
use Rattle.ia_code.specs.declared.ins.Rm.{Rm}
use Rattle.ia_code.specs.declared.ins.Rm.TheVariants as rm
use Rattle.ia_code.specs.DecodeTable.{reg_number, scale_number, mod_number, fields, imm32}
use Rattle.ia_code.specs.DecodeTable.{displacement, address, operand, is_register, is_scale}
use Rattle.ia_code.specs.DecodeTable.{is_index, is_base, Holds, IsOperand}
use Rattle.ia_code.specs.Reading.{reg_of, scale_of, width_of, byte_at, short_at, displacement_at}
use Rattle.ia_code.specs.Reading.{address_at, sib_at, memory_at, fields_at, operand_at}
use Rattle.ia_code.proofs.FieldNumbers.{reg_again, reg_small, width_again, mod_small, scale_small}
use Rattle.ia_code.proofs.FieldNumbers.{scale_again, word_again}

module _ (high middle low : ℕ) (hs : high < 4) (ms : middle < 8) (ls : low < 8) where
  pub high_of : fields high middle low / 64 ≡ high
  unfolding fields
  high_of = omega arith

  pub middle_of : fields high middle low / 8 % 8 ≡ middle
  unfolding fields
  middle_of = omega arith

  pub low_of : fields high middle low % 8 ≡ low
  unfolding fields
  low_of = omega arith

  pub split_operand : (tail : List ℕ) → operand_at (fields high middle low ∷ tail) ≡
      fields_at high middle low tail
  unfolding operand_at byte_at
  split_operand tail = rw (high_of, middle_of, low_of) refl

  split_sib : (mode : ℕ) (tail : List ℕ) → memory_at mode 4 (fields high middle low ∷ tail) ≡
      sib_at mode high middle low tail
  unfolding memory_at byte_at
  split_sib mode tail = rw (high_of, middle_of, low_of) refl

displacement_again : (w : Width) (d : ℤ) (rest : List ℕ) → Holds w d →
    displacement_at w (displacement w d ++ rest) ≡ Some (d, rest)
unfolding displacement_at short_at byte_at
displacement_again D0 d rest h = ap (λ x. Some (x, rest)) (sym h)
displacement_again D8 d rest h = ap (λ x. Some (x, rest)) (to_z-of_z w8 d h)
displacement_again D32 d rest h = word_again d rest h

address_at_again : (b : Option Reg) (x : Option (Reg × ℕ)) (w : Width) (d : ℤ) (rest : List ℕ) →
    Holds w d →
    address_at b x w (displacement w d ++ rest) ≡
    Some (record { base = b; index = x; disp = d; width = w }, rest)
unfolding address_at
address_at_again b x w d rest h = rw (displacement_again w d rest h) refl

-- no index: the low field is the base, which is not Esp
low_base : (b : Reg) (w : Width) (bytes : List ℕ) → is_register b Esp ≡ false → is_base (Some b) w ≡
    true →
    memory_at (mod_number w) (reg_number b) bytes ≡ address_at (Some b) None
    (width_of (mod_number w)) bytes
unfolding memory_at
low_base Eax w bytes e h = refl
low_base Ecx w bytes e h = refl
low_base Edx w bytes e h = refl
low_base Ebx w bytes e h = refl
low_base Esp w bytes e h = cc
low_base Ebp D0 bytes e h = cc
low_base Ebp D8 bytes e h = refl
low_base Ebp D32 bytes e h = refl
low_base Esi w bytes e h = refl
low_base Edi w bytes e h = refl

not_four : (r : Reg) → is_register r Esp ≡ false → (reg_number r == 4) ≡ false
not_four r e = e

sib_base : (b : Reg) (w : Width) (scale index : ℕ) (bytes : List ℕ) → (index == 4) ≡ false →
    is_base (Some b) w ≡ true →
    sib_at (mod_number w) scale index (reg_number b) bytes ≡ address_at (Some b)
    (Some (reg_of index, scale_of scale)) (width_of (mod_number w)) bytes
unfolding sib_at
sib_base Eax w s i bytes e h = rw e refl
sib_base Ecx w s i bytes e h = rw e refl
sib_base Edx w s i bytes e h = rw e refl
sib_base Ebx w s i bytes e h = rw e refl
sib_base Esp w s i bytes e h = rw e refl
sib_base Ebp D0 s i bytes e h = cc
sib_base Ebp D8 s i bytes e h = rw e refl
sib_base Ebp D32 s i bytes e h = rw e refl
sib_base Esi w s i bytes e h = rw e refl
sib_base Edi w s i bytes e h = rw e refl

sib_none : (scale index : ℕ) (bytes : List ℕ) → (index == 4) ≡ false →
    sib_at 0 scale index 5 bytes ≡ address_at None (Some (reg_of index, scale_of scale)) D32 bytes
unfolding sib_at
sib_none s i bytes e = rw e refl

mod_below : (w : Width) → mod_number w < 4
mod_below w = omega (arith, mod_small w)

sib_esp : (w : Width) (bytes : List ℕ) → sib_at (mod_number w) 0 4 4 bytes ≡
    address_at (Some Esp) None (width_of (mod_number w)) bytes
unfolding sib_at
sib_esp w bytes = refl

in_register : (reg : ℕ) (r : Reg) (rest : List ℕ) → fields_at 3 reg (reg_number r) rest ≡
    Some (reg, rm.Reg r, rest)
unfolding fields_at
in_register reg r rest = rw (reg_again r) refl

-- with a memory operand the high field is not 3
in_memory : (w : Width) (reg low : ℕ) (bytes rest : List ℕ) (a : MemAddr) →
    memory_at (mod_number w) low bytes ≡ Some (a, rest) → fields_at (mod_number w) reg low bytes ≡
    Some (reg, rm.Mem a, rest)
unfolding fields_at
in_memory D0 reg low bytes rest a e = rw e refl
in_memory D8 reg low bytes rest a e = rw e refl
in_memory D32 reg low bytes rest a e = rw e refl

pub index_parts : (x : Reg × ℕ) → is_index (Some x) ≡ true → (is_register x.0 Esp ≡ false) ×
    (is_scale x.1 ≡ true)
index_parts x h = (grind arith, grind arith)

none_at : (d : ℤ) (rest : List ℕ) → FitsSigned w32 d → memory_at 0 5 (imm32 d ++ rest) ≡
    Some (record { base = None; index = None; disp = d; width = D32 }, rest)
unfolding memory_at
none_at d rest h = address_at_again None None D32 d rest h

module _ (reg : ℕ) (ms : reg < 8) (rest : List ℕ) where
  address_again : (b : Option Reg) (x : Option (Reg × ℕ)) (w : Width) (d : ℤ) → is_index x ≡ true →
      is_base b w ≡ true → Holds w d →
      operand_at (address reg b x w d ++ rest) ≡
      Some (reg, rm.Mem (record { base = b; index = x; disp = d; width = w }), rest)
  address_again None None D0 d ix bs h = cc
  address_again None None D8 d ix bs h = cc
  address_again None None D32 d ix bs h =
      split_operand 0 reg 5 (omega arith) ms (omega arith) (imm32 d ++ rest)
      ∙ in_memory D0 reg 5 (imm32 d ++ rest) rest _ (none_at d rest h)
  address_again None (Some x) D0 d ix bs h = cc
  address_again None (Some x) D8 d ix bs h = cc
  address_again None (Some x) D32 d ix bs h =
      let p = index_parts x ix in
      split_operand 0 reg 4 (omega arith) ms (omega arith) _
      ∙ in_memory D0 reg 4 _ rest _
      (split_sib (scale_number x.1) (reg_number x.0) 5 (scale_small x.1) (reg_small x.0)
      (omega arith) 0 (imm32 d ++ rest)
      ∙ sib_none (scale_number x.1) (reg_number x.0) (imm32 d ++ rest) (not_four x.0 p.0)
      ∙ rw (reg_again x.0, scale_again x.1 p.1) (address_at_again None (Some x) D32 d rest h))
  address_again (Some Esp) None w d ix bs h =
      split_operand (mod_number w) reg 4 (mod_below w) ms (omega arith) _
      ∙ in_memory w reg 4 _ rest _
      (split_sib 0 4 4 (omega arith) (omega arith) (omega arith) (mod_number w)
      (displacement w d ++ rest)
      ∙ sib_esp w (displacement w d ++ rest)
      ∙ rw (width_again w) (address_at_again (Some Esp) None w d rest h))
  address_again (Some b) None w d ix bs h =
      split_operand (mod_number w) reg (reg_number b) (mod_below w) ms (reg_small b)
      (displacement w d ++ rest)
      ∙ in_memory w reg (reg_number b) _ rest _
      (low_base b w (displacement w d ++ rest) refl bs ∙ rw (width_again w)
      (address_at_again (Some b) None w d rest h))
  address_again (Some b) (Some x) w d ix bs h =
      let p = index_parts x ix in
      split_operand (mod_number w) reg 4 (mod_below w) ms (omega arith) _
      ∙ in_memory w reg 4 _ rest _
      (split_sib (scale_number x.1) (reg_number x.0) (reg_number b) (scale_small x.1)
      (reg_small x.0) (reg_small b) (mod_number w) (displacement w d ++ rest)
      ∙ sib_base b w (scale_number x.1) (reg_number x.0) (displacement w d ++ rest)
      (not_four x.0 p.0) bs
      ∙ rw (reg_again x.0, scale_again x.1 p.1, width_again w)
      (address_at_again (Some b) (Some x) w d rest h))

  pub operand_again : (r : Rm) → IsOperand r → operand_at (operand reg r ++ rest) ≡
      Some (reg, r, rest)
  operand_again (rm.Reg r) is = split_operand 3 reg (reg_number r) (omega arith) ms (reg_small r)
      rest ∙ in_register reg r rest
  operand_again (rm.Mem a) is = address_again a.base a.index a.width a.disp is.index is.base is.disp
