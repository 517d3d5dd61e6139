-- The numbers in a program's input. Blanks, tabs, line feeds and carriage returns part it; each run
-- of other bytes between two of them, or at an end, has to be a word: one or more decimal digits,
-- maybe behind a minus, for a number of 32 bits in two's complement.
use Rattle.std.specs.Prelude.{◌≡◌, ℕ, ◌+◌, ℤ, pos, neg_ℤ, Bool, ◌==◌, nat_le, ◌&&◌, ◌||◌}
use Rattle.std.specs.Prelude.{if◌then◌else◌, Option, Some, None, Result, Ok, Err, List, [], ◌∷◌}
use Rattle.std.specs.Prelude.{length}
use Rattle.std.specs.Option.{option_map}
use Rattle.std.specs.List.{slice_split}
use Rattle.std.specs.Str.{all_ascii_digits}
use Rattle.std.specs.Str.Parse.{digits_value_after}
use Rattle.pra_report.specs.declared.input.InputFault.{InputFault}
use Rattle.pra_report.specs.declared.input.InputFault.TheVariants.{BadInput, OutOfMemory}

-- blank, tab, line feed, carriage return
abbrev pub is_separator : ℕ → Bool
is_separator b = b == 32 || b == 9 || b == 10 || b == 13

-- ---- words

-- the value of digits behind others of this value, where all are digits and it is at most so much
abbrev pub digits_on : ℕ → ℕ → List ℕ → Option ℕ
digits_on most value ds =
    if all_ascii_digits ds && nat_le (digits_value_after 10 value ds) most
    then Some (digits_value_after 10 value ds) else None

-- the value of one or more digits
abbrev pub numeral : ℕ → List ℕ → Option ℕ
numeral most [] = None
numeral most (d ∷ ds) = digits_on most 0 (d ∷ ds)

-- the number that a run writes; a run that is no word writes none
abbrev pub word_of : List ℕ → Option ℤ
word_of [] = None
word_of (b ∷ bs) =
    if b == 45 then option_map (λ n. neg_ℤ (pos n)) (numeral 2147483648 bs)
    else option_map pos (numeral 2147483647 (b ∷ bs))

-- ---- runs

-- a run, and its first byte's place in the text
pub record Run : Type 0 where
  pub at : ℕ
  pub bytes : List ℕ

-- The runs among a text's parts, between which one separator stands each, and of which the first
-- begins at this place: those that have bytes.
abbrev pub runs_from : ℕ → List (List ℕ) → List Run
runs_from at [] = []
runs_from at ([] ∷ parts) = runs_from (at + 1) parts
runs_from at ((b ∷ bs) ∷ parts) =
    record { at = at; bytes = b ∷ bs } ∷ runs_from (at + length (b ∷ bs) + 1) parts

-- the maximal runs of bytes that are no separators
abbrev pub runs : List ℕ → List Run
runs text = runs_from 0 (slice_split is_separator text)

-- ---- the input

-- a number in front of what is read behind it; where there is none, the place of the run
abbrev pub with_word : ℕ → Option ℤ → Result (List ℤ) ℕ → Result (List ℤ) ℕ
with_word at None more = Err at
with_word at (Some n) (Ok numbers) = Ok (n ∷ numbers)
with_word at (Some n) (Err place) = Err place

-- the numbers of runs that are words, or the place of the first one that is not
abbrev pub numbers_of : List Run → Result (List ℤ) ℕ
numbers_of [] = Ok []
numbers_of (run ∷ more) = with_word run.at (word_of run.bytes) (numbers_of more)

abbrev pub input_words : List ℕ → Result (List ℤ) ℕ
input_words text = numbers_of (runs text)

-- why a text has no words
abbrev pub IsCause : List ℕ → InputFault → Type 0
IsCause text (BadInput at) = input_words text ≡ Err at
IsCause text OutOfMemory = Unit {0}
