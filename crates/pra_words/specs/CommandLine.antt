-- What stands on a command line: the values MODE and FILE, in this order, and anywhere among them
-- the options, each with its value.
use Rattle.std.specs.Prelude.{ℕ, zero, suc, Bool, true, not, ◌&&◌, ◌==◌, if◌then◌else◌}
use Rattle.std.specs.Prelude.{List, [], ◌∷◌, ◌++◌, Option, Some, None, option_map, option_and_then}
use Rattle.std.specs.Prelude.{find, drop}
use Rattle.std.specs.List.{list_any, before_first, after_first}
use Rattle.std.specs.Str.{bytes_eq}
use Rattle.pra_words.specs.declared.words.Word.{Word}
use Rattle.pra_words.specs.declared.words.Word.TheVariants.{Mode, File, Rounds, Cost, Steps}
use Rattle.pra_words.specs.declared.words.Word.TheVariants.{Gap, From, Image, Seed, Size}
use Rattle.pra_words.specs.Texts.{word_name}

abbrev pub Text : Type 0
Text = List ℕ

-- ---- a word by itself

-- it stands for itself: it begins with no `-` (45), or is `-` alone; it is `--`, behind which all
-- words stand for themselves; it is `--NAME` or `--NAME=VALUE`; or it is another that begins with
-- `-`
pub data Look : Type 0 where
  plain : Look
  ends : Look
  named : Text → Option Text → Look
  dashed : Look

abbrev pub is_equals : ℕ → Bool
is_equals byte = byte == 61

abbrev pub look_behind_two : Text → Look
look_behind_two [] = ends
look_behind_two (byte ∷ bytes) = named (before_first is_equals (byte ∷ bytes))
    (if list_any is_equals (byte ∷ bytes) then Some (after_first is_equals (byte ∷ bytes))
    else None)

abbrev pub look_behind_one : Text → Look
look_behind_one [] = plain
look_behind_one (byte ∷ bytes) = if byte == 45 then look_behind_two bytes else dashed

abbrev pub look : Text → Look
look [] = plain
look (byte ∷ bytes) = if byte == 45 then look_behind_one bytes else plain

-- ---- word by word

-- a value, and the word whose value it is
pub record Given : Type 0 where
  pub word : Word
  pub value : Text

-- of the words that stand for themselves, the first is MODE and the second FILE
abbrev pub place : ℕ → Option Word
place zero = Some Mode
place (suc zero) = Some File
place (suc (suc n)) = None

abbrev pub options : List Word
options = Rounds ∷ Cost ∷ Steps ∷ Gap ∷ From ∷ Image ∷ Seed ∷ Size ∷ []

-- an option's name, behind the two dashes
abbrev pub option_name : Word → Text
option_name word = drop 2 (word_name word)

abbrev pub option_named : Text → Option Word
option_named name = find (λ word. bytes_eq (option_name word) name) options

-- what may come next, behind so many words that stand for themselves: any word, the value of an
-- option, or, behind `--`, only words that stand for themselves
pub data Next : Type 0 where
  any : ℕ → Next
  value_of : Word → ℕ → Next
  itself : ℕ → Next

-- a value is given, if it is one of a word
abbrev pub gives : Option Word → Text → Next → Option (List Given × Next)
gives None value next = None
gives (Some word) value next = Some (record { word = word; value = value } ∷ [], next)

abbrev pub waits : Option Word → ℕ → Option (List Given × Next)
waits None n = None
waits (Some word) n = Some ([], value_of word n)

abbrev pub any_word : ℕ → Text → Look → Option (List Given × Next)
any_word n word plain = gives (place n) word (any (suc n))
any_word n word ends = Some ([], itself n)
any_word n word (named name (Some value)) = gives (option_named name) value (any n)
any_word n word (named name None) = waits (option_named name) n
any_word n word dashed = None

abbrev pub option_value : Word → ℕ → Text → Look → Option (List Given × Next)
option_value option n word plain = gives (Some option) word (any n)
option_value option n word _ = None

-- what a word gives, and what may come behind it
abbrev pub turn : Next → Text → Option (List Given × Next)
turn (any n) word = any_word n word (look word)
turn (value_of option n) word = option_value option n word (look word)
turn (itself n) word = gives (place n) word (itself (suc n))

abbrev pub at_end : Next → Option (List Given)
at_end (value_of option n) = None
at_end next = Some []

-- what the words give, one after the other
abbrev pub given : Next → List Text → Option (List Given)
given next [] = at_end next
given next (word ∷ words) =
    option_and_then (λ t. option_map (λ gs. t.0 ++ gs) (given t.1 words)) (turn next word)

-- ---- the whole

abbrev pub is_of : Word → Given → Bool
is_of word g = bytes_eq (word_name g.word) (word_name word)

-- no word has two values
abbrev pub is_once : List Given → Bool
is_once [] = true
is_once (g ∷ gs) = not (list_any (is_of g.word) gs) && is_once gs

abbrev pub value_in : List Given → Word → Option Text
value_in gs word = option_map (λ g. g.value) (find (is_of word) gs)

-- the values of a command line, as they are written
pub record Line : Type 0 where
  pub mode : Text
  pub file : Text
  pub rounds : Option Text
  pub cost : Option Text
  pub steps : Option Text
  pub gap : Option Text
  pub from : Option Text
  pub image : Option Text
  pub seed : Option Text
  pub size : Option Text

-- MODE and FILE are wanted, and the options may be left out
abbrev pub line_by : Option Text → Option Text → (Word → Option Text) → Option Line
line_by (Some mode) (Some file) value = Some (record {
  mode = mode;
  file = file;
  rounds = value Rounds;
  cost = value Cost;
  steps = value Steps;
  gap = value Gap;
  from = value From;
  image = value Image;
  seed = value Seed;
  size = value Size;
})
line_by mode file value = None

abbrev pub line_in : (Word → Option Text) → Option Line
line_in value = line_by (value Mode) (value File) value

abbrev pub line_from : List Given → Option Line
line_from gs = if is_once gs then line_in (value_in gs) else None

-- The values of a command line; nothing where the words are none.
abbrev pub line_of : List Text → Option Line
line_of words = option_and_then line_from (given (any 0) words)
