-- What was asked for lies within what the words may say.
use Rattle.std.proofs.Common.{◌≡◌, ◌≢◌, ◌≤◌, ℕ, Bool, true, false, List, Option, Some, None, refl}
use Rattle.std.proofs.Common.{sym, ap, ◌∙◌, subst, leb-true, arith}
use Rattle.std.specs.Prelude.{Result, Ok, Err, nat_le, ◌&&◌, not, unwrap_or}
use Rattle.std.specs.Option.{ok_or}
use Rattle.std.specs.Str.{bytes_eq}
use Rattle.std.specs.Str.Parse.{digits_value}
use Rattle.std.proofs.lemmas.Slice.Eq.{bytes_eq-Decides}
use Rattle.pra_list.specs.Results.{◌>>=◌}
use Rattle.pra_list.proofs.Choices.{and_true, by_test}
use Rattle.pra_list.proofs.Options.{some_same, none_some}
use Rattle.pra_list.proofs.Results.{came_of}
use Rattle.pra_words.specs.declared.words.Mode.{Mode}
use Rattle.pra_words.specs.declared.words.CostWord.{CostWord}
use Rattle.pra_words.specs.declared.words.FileKind.{FileKind}
use Rattle.pra_words.specs.declared.words.Word.TheVariants as a_word
use Rattle.pra_words.specs.declared.words.WordsFault.{WordsFault}
use Rattle.pra_words.specs.declared.words.WordsFault.TheVariants.{Value}
use Rattle.pra_words.specs.CommandLine.{Line, line_of}
use Rattle.pra_words.specs.Words.{Asked, mode_of, file_of, cost_word_of, is_number, is_empty}
use Rattle.pra_words.specs.Words.{number_within, value_of, writes_image, default_image, is_image}
use Rattle.pra_words.specs.Words.{file_kind_of, image_of, values_of, asked_in, asked_of}
use Rattle.pra_tool.specs.Asking.{IsAnswerable}

-- ---- values

within_is : (least most : ℕ) (word : List ℕ) (n : ℕ) → number_within least most word ≡ Some n →
    (least ≤ n) × (n ≤ most)
within_is least most word n is =
    let value = digits_value 10 word in
    let front = is_number word && nat_le least value in
    by_test (front && nat_le value most) (Some value) None (Some n)
    (λ b same. let both = and_true front (nat_le value most) b in
    let low = and_true (is_number word) (nat_le least value) both.0 in
    subst (λ k. (least ≤ k) × (k ≤ most)) (some_same value n same)
    (leb-true least value low.1, leb-true value most both.1))
    (λ b same. absurd (none_some same)) is

value_is : (default least most : ℕ) (word : Option (List ℕ)) (n : ℕ) → least ≤ default →
    default ≤ most → value_of default least most word ≡ Some n → (least ≤ n) × (n ≤ most)
value_is default least most None n low high is =
    subst (λ k. (least ≤ k) × (k ≤ most)) (some_same default n is) (low, high)
value_is default least most (Some word) n low high is = within_is least most word n is

not_both : (written : Bool) (same : Bool) → not (written && same) ≡ true → written ≡ true →
    same ≡ true → ⊥
not_both true true is w s = cc
not_both true false is w s = cc
not_both false same is w s = cc

image_is : (mode : Mode) (file : List ℕ) (word : Option (List ℕ)) (image : List ℕ) →
    image_of mode file word ≡ Some image → writes_image mode ≡ true → image ≢ file
image_is mode file word image is writes =
    let given = unwrap_or word default_image in
    by_test (is_image mode file given) (Some given) None (Some image)
    (λ b same. subst (λ (name : List ℕ). name ≢ file) (some_same given image same)
    (λ e. not_both (writes_image mode) (bytes_eq given file)
    (and_true (not (is_empty given)) (not (writes_image mode && bytes_eq given file)) b).1 writes
    ((bytes_eq-Decides given file).1 e)))
    (λ b same. absurd (none_some same)) is

-- ---- the whole

abbrev done : Asked → Result Asked WordsFault
done asked = Ok asked

ok_same : (a b : Asked) → done a ≡ done b → a ≡ b
ok_same a b e = cc

-- a value that is there
there : {A : Type 0} (o : Option A) (fault : WordsFault) (a : A) → ok_or o fault ≡ Ok a → o ≡ Some a
there None fault a e = cc
there (Some b) fault a e = let same : b ≡ a = cc in ap Some same

-- what is asked for, once the values are read up to one of them

abbrev all_values : Mode → List ℕ → ℕ → CostWord → ℕ → ℕ → FileKind → List ℕ → ℕ → ℕ →
    Result Asked WordsFault
all_values mode file rounds cost steps gap from image seed size = Ok (record {
  mode = mode;
  file = file;
  rounds = rounds;
  cost = cost;
  steps = steps;
  gap = gap;
  from = from;
  image = image;
  seed = seed;
  size = size;
})

abbrev with_seed : Line → Mode → List ℕ → ℕ → CostWord → ℕ → ℕ → FileKind → List ℕ → ℕ →
    Result Asked WordsFault
with_seed line mode file rounds cost steps gap from image seed =
    ok_or (value_of 10 1 200 line.size) (Value a_word.Size)
    >>= all_values mode file rounds cost steps gap from image seed

abbrev with_image : Line → Mode → List ℕ → ℕ → CostWord → ℕ → ℕ → FileKind → List ℕ →
    Result Asked WordsFault
with_image line mode file rounds cost steps gap from image =
    ok_or (value_of 1 0 2147483647 line.seed) (Value a_word.Seed)
    >>= with_seed line mode file rounds cost steps gap from image

abbrev with_from : Line → Mode → List ℕ → ℕ → CostWord → ℕ → ℕ → FileKind →
    Result Asked WordsFault
with_from line mode file rounds cost steps gap from =
    ok_or (image_of mode file line.image) (Value a_word.Image)
    >>= with_image line mode file rounds cost steps gap from

abbrev with_gap : Line → Mode → List ℕ → ℕ → CostWord → ℕ → ℕ → Result Asked WordsFault
with_gap line mode file rounds cost steps gap =
    ok_or (file_kind_of mode line.from) (Value a_word.From)
    >>= with_from line mode file rounds cost steps gap

abbrev with_steps : Line → Mode → List ℕ → ℕ → CostWord → ℕ → Result Asked WordsFault
with_steps line mode file rounds cost steps =
    ok_or (value_of 0 0 4294967295 line.gap) (Value a_word.Gap)
    >>= with_gap line mode file rounds cost steps

abbrev with_cost : Line → Mode → List ℕ → ℕ → CostWord → Result Asked WordsFault
with_cost line mode file rounds cost =
    ok_or (value_of 10000000 0 200000000 line.steps) (Value a_word.Steps)
    >>= with_steps line mode file rounds cost

abbrev with_rounds : Line → Mode → List ℕ → ℕ → Result Asked WordsFault
with_rounds line mode file rounds =
    ok_or (cost_word_of line.cost) (Value a_word.Cost) >>= with_cost line mode file rounds

abbrev with_file : Line → Mode → List ℕ → Result Asked WordsFault
with_file line mode file =
    ok_or (value_of 10 0 1000 line.rounds) (Value a_word.Rounds) >>= with_rounds line mode file

abbrev with_mode : Line → Mode → Result Asked WordsFault
with_mode line mode = ok_or (file_of line.file) (Value a_word.File) >>= with_file line mode

values_are : (line : Line) (asked : Asked) → values_of line ≡ Ok asked → IsAnswerable asked
values_are line asked e =
    let mode = came_of (ok_or (mode_of line.mode) (Value a_word.Mode)) (with_mode line) asked e in
    let file = came_of (ok_or (file_of line.file) (Value a_word.File)) (with_file line mode.0)
    asked mode.2 in
    let rounds = came_of (ok_or (value_of 10 0 1000 line.rounds) (Value a_word.Rounds))
    (with_rounds line mode.0 file.0) asked file.2 in
    let cost = came_of (ok_or (cost_word_of line.cost) (Value a_word.Cost))
    (with_cost line mode.0 file.0 rounds.0) asked rounds.2 in
    let steps = came_of (ok_or (value_of 10000000 0 200000000 line.steps) (Value a_word.Steps))
    (with_steps line mode.0 file.0 rounds.0 cost.0) asked cost.2 in
    let gap = came_of (ok_or (value_of 0 0 4294967295 line.gap) (Value a_word.Gap))
    (with_gap line mode.0 file.0 rounds.0 cost.0 steps.0) asked steps.2 in
    let from = came_of (ok_or (file_kind_of mode.0 line.from) (Value a_word.From))
    (with_from line mode.0 file.0 rounds.0 cost.0 steps.0 gap.0) asked gap.2 in
    let image = came_of (ok_or (image_of mode.0 file.0 line.image) (Value a_word.Image))
    (with_image line mode.0 file.0 rounds.0 cost.0 steps.0 gap.0 from.0) asked from.2 in
    let seed = came_of (ok_or (value_of 1 0 2147483647 line.seed) (Value a_word.Seed))
    (with_seed line mode.0 file.0 rounds.0 cost.0 steps.0 gap.0 from.0 image.0) asked image.2 in
    let size = came_of (ok_or (value_of 10 1 200 line.size) (Value a_word.Size))
    (all_values mode.0 file.0 rounds.0 cost.0 steps.0 gap.0 from.0 image.0 seed.0) asked seed.2 in
    subst IsAnswerable (ok_same _ asked size.2) (record {
      rounds = (value_is 10 0 1000 line.rounds rounds.0 (omega arith) (omega arith)
          (there _ _ rounds.0 rounds.1)).1;
      seed = (value_is 1 0 2147483647 line.seed seed.0 (omega arith) (omega arith)
          (there _ _ _ seed.1)).1;
      some = (value_is 10 1 200 line.size size.0 (omega arith) (omega arith)
          (there _ _ _ size.1)).0;
      size = (value_is 10 1 200 line.size size.0 (omega arith) (omega arith)
          (there _ _ _ size.1)).1;
      apart = image_is mode.0 file.0 line.image image.0 (there _ _ _ image.1);
    })

in_line : (line : Option Line) (asked : Asked) → asked_in line ≡ Ok asked → IsAnswerable asked
in_line None asked e = cc
in_line (Some line) asked e = values_are line asked e

pub answerable : (words : List (List ℕ)) (asked : Asked) → asked_of words ≡ Ok asked →
    IsAnswerable asked
answerable words asked e = in_line (line_of words) asked e
