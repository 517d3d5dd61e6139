-- Operands that are written are read again.
use Rattle.std.proofs.Common.{◌≡◌, ℕ, ◌+◌, ◌^◌, ◌<◌, true, List, [], ◌∷◌, ◌++◌, drop, Option, Some}
use Rattle.std.proofs.Common.{None, refl, sym, ap, ◌∙◌, arith, append_assoc}
use Rattle.std.specs.Prelude.{ℤ, slice_index}
use Rattle.std.specs.Int.{w32}
use Rattle.std.specs.Int.RustNames.{FitsSigned}
use Rattle.std.specs.Fmt.{decimal, signed_decimal}
use Rattle.std.proofs.lemmas.Bool.Decides.{nat_tests}
use Rattle.std.proofs.lemmas.Fmt.{decimal_digit}
use Rattle.std.proofs.lemmas.Int.{ints}
use Rattle.ia_code.specs.declared.ins.Reg.{Reg}
use Rattle.ia_code.specs.declared.ins.Reg.TheVariants.{Eax}
use Rattle.ia_code.specs.declared.ins.Width.{Width}
use Rattle.ia_code.specs.declared.ins.Width.TheVariants.{D0, D32}
use Rattle.ia_code.specs.declared.ins.MemAddr.{MemAddr}
use Rattle.ia_code.specs.declared.ins.Rm.{Rm}
use Rattle.ia_code.specs.declared.ins.Rm.TheVariants as rm
use Rattle.ia_code.specs.DecodeTable.{is_scale, is_index, has_low_byte, Holds, IsAddress, IsOperand}
use Rattle.ia_code.proofs.OperandsSpelledAreRead.{index_parts}
use Rattle.ia_list.specs.declared.forms.Operands.{Operands}
use Rattle.ia_list.specs.declared.forms.Operands.TheVariants.{Nothing, One, Two, Number, OneNumber}
use Rattle.ia_list.specs.declared.forms.Operands.TheVariants.{TwoNumber, Target, LowByte}
use Rattle.ia_list.specs.declared.forms.Operands.TheVariants.{OneLowByte}
use Rattle.ia_list.specs.declared.forms.Shape.{Shape}
use Rattle.ia_list.specs.declared.forms.Shape.TheVariants as shape
use Rattle.ia_list.specs.Text.{register_name, low_name, base_text, index_text, width_text}
use Rattle.ia_list.specs.Text.{operand_text, operands_text}
use Rattle.ia_list.specs.Reading.{number_at, register_at, low_named, scale_named, base_at, index_at}
use Rattle.ia_list.specs.Reading.{width_at, address_at, operand_at, operands_at}
use Rattle.pra_list.specs.Options.{◌>>=◌}
use Rattle.ia_list.proofs.NumbersRead.{number_read, hexadecimal_read}

-- Registers.

low_read : (r : Reg) (rest : List ℕ) → has_low_byte r ≡ true →
    low_named (slice_index (low_name r ++ rest) 0) ≡ Some r
low_read Eax rest h = cc
low_read _ rest h = cc

-- Addresses.

base_some : (r : Reg) (rest : List ℕ) → base_at (register_name r ++ 43 ∷ rest) ≡ Some (Some r, rest)
unfolding base_at register_at
base_some Eax rest = refl
base_some _ rest = refl

-- a register before a * is no base
base_at_index : (r : Reg) (rest : List ℕ) →
    base_at (register_name r ++ 42 ∷ rest) ≡ Some (None, register_name r ++ 42 ∷ rest)
unfolding base_at
base_at_index Eax rest = refl
base_at_index _ rest = refl

base_at_width : (w : Width) (rest : List ℕ) →
    base_at (width_text w ++ rest) ≡ Some (None, width_text w ++ rest)
unfolding base_at
base_at_width D0 rest = refl
base_at_width _ rest = refl

-- behind a register's name
index_named : (r : Reg) (rest : List ℕ) →
    index_at (register_name r ++ rest)
    ≡ (scale_named (slice_index rest 1) >>= λ s. Some (Some (r, s), drop 3 rest))
unfolding index_at register_at
index_named Eax rest = refl
index_named _ rest = refl

scale_read : (s : ℕ) → is_scale s ≡ true → (s < 10) × (scale_named (48 + s) ≡ Some s)
scale_read s h = (grind (arith, nat_tests), grind (arith, nat_tests))

index_some : (r : Reg) (s : ℕ) (rest : List ℕ) → is_scale s ≡ true →
    index_at (register_name r ++ 42 ∷ (decimal s ++ 43 ∷ rest)) ≡ Some (Some (r, s), rest)
index_some r s rest h =
    let is = scale_read s h in
    index_named r (42 ∷ (decimal s ++ 43 ∷ rest)) ∙ rw (decimal_digit s is.0, is.1) refl

index_at_width : (w : Width) (rest : List ℕ) →
    index_at (width_text w ++ rest) ≡ Some (None, width_text w ++ rest)
unfolding index_at
index_at_width D0 rest = refl
index_at_width _ rest = refl

width_read : (w : Width) (rest : List ℕ) → width_at (width_text w ++ rest) ≡ Some (w, rest)
unfolding width_at
width_read D0 rest = refl
width_read _ rest = refl

disp_fits : (w : Width) (d : ℤ) → Holds w d → FitsSigned w32 d
disp_fits D32 d h = h
disp_fits _ d h = omega (arith, ints)

nested : (a b c d e rest : List ℕ) →
    (((((a ++ b) ++ c) ++ d) ++ e) ++ 93 ∷ []) ++ rest ≡ a ++ (b ++ (c ++ (d ++ (e ++ 93 ∷ rest))))
nested a b c d e rest = simp (append_assoc) refl

index_nested : (r d rest : List ℕ) →
    (((r ++ 42 ∷ []) ++ d) ++ 43 ∷ []) ++ rest ≡ r ++ 42 ∷ (d ++ 43 ∷ rest)
index_nested r d rest = simp (append_assoc) refl

-- the parts of an address, with others behind them
module _ (w : Width) (rest : List ℕ) where
  index_read : (x : Option (Reg × ℕ)) → is_index x ≡ true →
      index_at (index_text x ++ (width_text w ++ rest)) ≡ Some (x, width_text w ++ rest)
  index_read None ix = index_at_width w rest
  index_read (Some x) ix =
      ap index_at (index_nested (register_name x.0) (decimal x.1) (width_text w ++ rest))
      ∙ index_some x.0 x.1 (width_text w ++ rest) (index_parts x ix).1

  base_read : (b : Option Reg) (x : Option (Reg × ℕ)) →
      base_at (base_text b ++ (index_text x ++ (width_text w ++ rest)))
      ≡ Some (b, index_text x ++ (width_text w ++ rest))
  base_read None None = base_at_width w rest
  base_read None (Some x) =
      let e = index_nested (register_name x.0) (decimal x.1) (width_text w ++ rest) in
      ap base_at e ∙ base_at_index x.0 (decimal x.1 ++ 43 ∷ (width_text w ++ rest))
      ∙ ap (λ l. let y : Option Reg × List ℕ = (None, l) in Some y) (sym e)
  base_read (Some b) x =
      ap base_at (append_assoc (register_name b) (43 ∷ [])
      (index_text x ++ (width_text w ++ rest)))
      ∙ base_some b (index_text x ++ (width_text w ++ rest))

address_read : (a : MemAddr) (rest : List ℕ) → IsAddress a →
    address_at (base_text a.base ++ (index_text a.index ++ (width_text a.width
    ++ (signed_decimal a.disp ++ 93 ∷ rest)))) ≡ Some (a, rest)
unfolding address_at
address_read a rest is =
    rw (
      base_read a.width (signed_decimal a.disp ++ 93 ∷ rest) a.base a.index,
      index_read a.width (signed_decimal a.disp ++ 93 ∷ rest) a.index is.index,
      width_read a.width (signed_decimal a.disp ++ 93 ∷ rest),
      number_read 93 rest refl a.disp (disp_fits a.width a.disp is.disp),
    ) refl

operand_read : (a : Rm) (rest : List ℕ) → IsOperand a →
    operand_at (operand_text a ++ rest) ≡ Some (a, rest)
unfolding operand_at register_at
operand_read (rm.Mem a) rest is =
    ap operand_at (nested (91 ∷ []) (base_text a.base) (index_text a.index) (width_text a.width)
    (signed_decimal a.disp) rest) ∙ rw (address_read a rest is) refl
operand_read (rm.Reg Eax) rest is = refl
operand_read (rm.Reg _) rest is = refl

-- Operands by their shape.

unfoldable pub operands_shape : Operands → Shape
operands_shape Nothing = shape.Nothing
operands_shape (One a) = shape.One
operands_shape (Two a b) = shape.Two
operands_shape (Number n) = shape.Number
operands_shape (OneNumber a n) = shape.OneNumber
operands_shape (TwoNumber a b n) = shape.TwoNumber
operands_shape (Target t) = shape.Target
operands_shape (LowByte r) = shape.LowByte
operands_shape (OneLowByte a r) = shape.OneLowByte

abbrev pub AreOperands : Operands → Type 0
AreOperands Nothing = Unit {0}
AreOperands (One a) = IsOperand a
AreOperands (Two a b) = IsOperand a × IsOperand b
AreOperands (Number n) = FitsSigned w32 n
AreOperands (OneNumber a n) = IsOperand a × FitsSigned w32 n
AreOperands (TwoNumber a b n) = IsOperand a × IsOperand b × FitsSigned w32 n
AreOperands (Target t) = t < 2 ^ 32
AreOperands (LowByte r) = has_low_byte r ≡ true
AreOperands (OneLowByte a r) = IsOperand a × (has_low_byte r ≡ true)

-- behind the operands stands the end of the line
module _ (rest : List ℕ) where
  unfoldable pub end : List ℕ
  end = 10 ∷ rest

  number_end : (n : ℤ) → FitsSigned w32 n → number_at (signed_decimal n ++ end) ≡ Some (n, end)
  unfolding end
  number_end n f = number_read 10 rest refl n f

  pub operands_read : (o : Operands) → AreOperands o →
      operands_at (operands_shape o) (operands_text o ++ end) ≡ Some o
  unfolding operands_at operands_shape
  operands_read Nothing h = refl
  operands_read (One a) h = rw (operand_read a end h) refl
  operands_read (Two a b) h =
      simp append_assoc (rw (operand_read a _ h.0, operand_read b end h.1) refl)
  operands_read (Number n) h = rw (number_end n h) refl
  operands_read (OneNumber a n) h =
      simp append_assoc (rw (operand_read a _ h.0, number_end n h.1) refl)
  operands_read (TwoNumber a b n) h = simp append_assoc
      (rw (operand_read a _ h.0, operand_read b _ h.1, number_end n h.2) refl)
  operands_read (Target t) h = rw (hexadecimal_read t end h) refl
  operands_read (LowByte r) h = rw (low_read r end h) refl
  operands_read (OneLowByte a r) h =
      simp append_assoc (rw (operand_read a _ h.0, low_read r end h.1) refl)
