-- A line that is written is read again.
use Rattle.std.proofs.Common.{rules, ◌≡◌, ℕ, ◌+◌, ◌^◌, ◌≤◌, ◌<◌, true, List, [], ◌∷◌, ◌++◌, length}
use Rattle.std.proofs.Common.{drop, Some, refl, sym, ap, ◌∙◌, arith, append_assoc}
use Rattle.std.specs.Prelude.{ℤ, pos}
use Rattle.std.specs.Int.{w8, w32}
use Rattle.std.specs.Int.RustNames.{FitsSigned}
use Rattle.std.proofs.lemmas.Bool.Decides.{nat_tests}
use Rattle.std.proofs.lemmas.Int.{ints, to_z-of_z}
use Rattle.pra_base.specs.Words.{word, signed, sum32, diff32}
use Rattle.ia_code.specs.declared.ins.Ins.{Ins}
use Rattle.ia_code.specs.declared.ins.Ins.TheVariants.{AluRmB, ImulB, Shift, Cdq, Call, RetI, Jmp}
use Rattle.ia_code.specs.declared.ins.Ins.TheVariants.{Jcc, Int}
use Rattle.ia_code.specs.Services.{is_service}
use Rattle.ia_code.specs.DecodeTable.{bytes_of, IsSound}
use Rattle.ia_code.proofs.FieldNumbers.{bits_fit}
use Rattle.ia_list.specs.declared.forms.Operands.{Operands}
use Rattle.ia_list.specs.declared.forms.Operands.TheVariants.{Nothing}
use Rattle.ia_list.specs.Parts.{name, shape_of, target, parts}
use Rattle.ia_list.specs.Text.{operands_text, line}
use Rattle.ia_list.specs.Reading.{ends_name, named_at, operands_at, short_of, natural_of, distance}
use Rattle.ia_list.specs.Reading.{made_nothing, made_one, made_two, made_number, made_one_number}
use Rattle.ia_list.specs.Reading.{made_two_number, made_target, made_low, made_one_low, made}
use Rattle.ia_list.specs.Reading.{instruction_at}
use Rattle.ia_list.proofs.NamesRead.{name_read}
use Rattle.ia_list.proofs.OperandsRead.{operands_shape, AreOperands, end, operands_read}

-- The operands of a sound instruction.

short_fits : (n : ℤ) → FitsSigned w8 n → FitsSigned w32 n
short_fits n f = omega (arith, ints)

service_small : (n : ℕ) → is_service n ≡ true → n < 256
service_small n h = grind (arith, nat_tests)

pub are_operands : (next : ℕ) (i : Ins) → IsSound i → AreOperands (parts next i).1
are_operands next (AluRmB op to n) is = (is.0, short_fits n is.1)
are_operands next (ImulB to from n) is = (tt, is.0, short_fits n is.1)
are_operands next (Shift op to n) is = (is.0, omega (arith, ints, is.1))
are_operands next (Int n) is = omega (arith, ints, service_small n is)
are_operands next _ is = first_of (search rules, omega (arith, ints))

shape_is : (next : ℕ) (i : Ins) → shape_of (parts next i).0 ≡ operands_shape (parts next i).1
unfolding operands_shape
shape_is next Cdq = refl
shape_is next _ = refl

-- What a form and operands make.

short_again : (n : ℤ) → FitsSigned w8 n → short_of n ≡ Some n
short_again n f = grind (arith, ints, nat_tests)

natural_again : (most n : ℕ) → n ≤ most → natural_of most (pos n) ≡ Some n
natural_again most n h = grind (arith, nat_tests)

turned : (next b : ℕ) → next < 2 ^ 32 → b < 2 ^ 32 → diff32 (sum32 next b) next ≡ b
turned next b h k = omega arith

distance_again : (next : ℕ) (to : ℤ) → next < 2 ^ 32 → FitsSigned w32 to →
    distance next (target next to) ≡ to
distance_again next to h f = ap signed (turned next (word to) h (bits_fit to f))
    ∙ to_z-of_z w32 to f

-- what stands at this place and has so many bytes
MadeAt : ℕ → Ins → Type 0
MadeAt place i = made place (parts (place + length (bytes_of i)) i).0
    (parts (place + length (bytes_of i)) i).1 ≡ Some i

made_again : (place : ℕ) (i : Ins) → IsSound i → place < 2 ^ 31 → MadeAt place i
unfolding MadeAt made made_nothing made_one made_two made_number made_one_number made_two_number
    made_target made_low made_one_low
made_again place (AluRmB op to n) is h = rw (short_again n is.1) refl
made_again place (ImulB to from n) is h = rw (short_again n is.1) refl
made_again place (Shift op to n) is h = rw (natural_again 255 n (omega (arith, is.1))) refl
made_again place (Call to) is h =
    ap (λ d. Some (Call d)) (distance_again (place + 5) to (omega arith) is)
made_again place (RetI n) is h = rw (natural_again 65535 n (omega arith)) refl
made_again place (Jmp to) is h =
    ap (λ d. Some (Jmp d)) (distance_again (place + 5) to (omega arith) is)
made_again place (Jcc c to) is h =
    ap (λ d. Some (Jcc c d)) (distance_again (place + 6) to (omega arith) is)
made_again place (Int n) is h =
    rw (natural_again 255 n (omega (arith, service_small n is))) refl
made_again place _ is h = refl

-- A whole line.

-- a name ends where operands begin, or with the line
ends_before : (o : Operands) (rest : List ℕ) →
    (c : ℕ) × (t : List ℕ) × (ends_name c ≡ true) × (operands_text o ++ 10 ∷ rest ≡ c ∷ t)
ends_before Nothing rest = (10, rest, refl, refl)
ends_before _ rest = (32, _, refl, refl)

line_nested : (n o rest : List ℕ) → ((n ++ o) ++ 10 ∷ []) ++ rest ≡ n ++ (o ++ 10 ∷ rest)
line_nested n o rest = simp (append_assoc) refl

module _ (place : ℕ) (i : Ins) (rest : List ℕ) where
  next : ℕ
  next = place + length (bytes_of i)

  behind_place : drop 9 (line place i ++ rest) ≡ name (parts next i).0
      ++ (operands_text (parts next i).1 ++ 10 ∷ rest)
  unfolding line next
  behind_place = line_nested (name (parts (place + length (bytes_of i)) i).0)
      (operands_text (parts (place + length (bytes_of i)) i).1) rest

  name_behind : named_at (drop 9 (line place i ++ rest))
      ≡ Some ((parts next i).0, operands_text (parts next i).1 ++ 10 ∷ rest)
  name_behind =
      let e = ends_before (parts next i).1 rest in
      ap named_at (behind_place ∙ ap (λ l. name (parts next i).0 ++ l) e.3)
      ∙ name_read e.0 e.1 e.2 (parts next i).0
      ∙ ap (λ l. Some ((parts next i).0, l)) (sym e.3)

  operands_behind : IsSound i → operands_at (shape_of (parts next i).0)
      (operands_text (parts next i).1 ++ 10 ∷ rest) ≡ Some (parts next i).1
  unfolding end
  operands_behind is =
      ap (λ s. operands_at s (operands_text (parts next i).1 ++ 10 ∷ rest)) (shape_is next i)
      ∙ operands_read rest (parts next i).1 (are_operands next i is)

  pub line_read : IsSound i → place < 2 ^ 31 → instruction_at place (line place i ++ rest) ≡ Some i
  unfolding instruction_at MadeAt next
  line_read is h = rw (name_behind, operands_behind is) (made_again place i is h)
