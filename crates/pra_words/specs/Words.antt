-- What the words of a command line ask for.
use Rattle.std.specs.Prelude.{ℕ, List, [], ◌∷◌, length, map, if◌then◌else◌, nat_le, ◌&&◌, not}
use Rattle.std.specs.Prelude.{Bool, true, false, None, Some, Result, Ok, Err, String, codes}
use Rattle.std.specs.Prelude.{string_bytes, unwrap_or, option_and_then}
use Rattle.std.specs.Option.{ok_or}
use Rattle.std.specs.declared.option.Option.{Option}
use Rattle.std.specs.declared.alloc.Global.{Global}
use Rattle.std.specs.Str.{bytes_eq, all_ascii_digits}
use Rattle.std.specs.Str.Parse.{digits_value}
use Rattle.pra_list.specs.Results.{◌>>=◌}
use Rattle.pra_words.specs.declared.words.Mode.{Mode}
use Rattle.pra_words.specs.declared.words.Mode.TheVariants as a_mode
use Rattle.pra_words.specs.declared.words.CostWord.{CostWord}
use Rattle.pra_words.specs.declared.words.CostWord.TheVariants as a_cost
use Rattle.pra_words.specs.declared.words.FileKind.{FileKind}
use Rattle.pra_words.specs.declared.words.FileKind.TheVariants as a_kind
use Rattle.pra_words.specs.declared.words.WordsFault.{WordsFault}
use Rattle.pra_words.specs.declared.words.WordsFault.TheVariants.{Words, Value}
use Rattle.pra_words.specs.declared.words.Word.TheVariants as a_word
use Rattle.pra_words.specs.CommandLine.{Line, line_of}

-- the words as texts
abbrev pub texts : List (String Global) → List (List ℕ)
texts words = map string_bytes words

-- ---- values

abbrev pub mode_of : List ℕ → Option Mode
mode_of word =
    if bytes_eq word (codes "run") then Some a_mode.Run
    else (if bytes_eq word (codes "compile") then Some a_mode.Compile
    else (if bytes_eq word (codes "gen") then Some a_mode.Gen
    else (if bytes_eq word (codes "list") then Some a_mode.List
    else (if bytes_eq word (codes "asm") then Some a_mode.Asm
    else (if bytes_eq word (codes "interp") then Some a_mode.Interp
    else (if bytes_eq word (codes "cert") then Some a_mode.Cert
    else (if bytes_eq word (codes "check") then Some a_mode.Check
    else (if bytes_eq word (codes "exec") then Some a_mode.Exec
    else (if bytes_eq word (codes "apply") then Some a_mode.Apply else None)))))))))

-- whether the mode writes an image file
abbrev pub writes_image : Mode → Bool
writes_image a_mode.List = false
writes_image a_mode.Interp = false
writes_image a_mode.Cert = false
writes_image a_mode.Check = false
writes_image a_mode.Exec = false
writes_image mode = true

abbrev pub is_empty : List ℕ → Bool
is_empty [] = true
is_empty (byte ∷ bytes) = false

-- FILE's name: not empty
abbrev pub file_of : List ℕ → Option (List ℕ)
file_of word = if is_empty word then None else Some word

-- one to ten decimal digits
abbrev pub is_number : List ℕ → Bool
is_number word = all_ascii_digits word && nat_le 1 (length word) && nat_le (length word) 10

-- a number from the least to the most
abbrev pub number_within : ℕ → ℕ → List ℕ → Option ℕ
number_within least most word =
    if is_number word && nat_le least (digits_value 10 word) && nat_le (digits_value 10 word) most
    then Some (digits_value 10 word) else None

-- such a number, or the default where the words don't say
abbrev pub value_of : ℕ → ℕ → ℕ → Option (List ℕ) → Option ℕ
value_of default least most None = Some default
value_of default least most (Some word) = number_within least most word

-- what the code is to be cheap in
abbrev pub cost_word : List ℕ → Option CostWord
cost_word word =
    if bytes_eq word (codes "size") then Some a_cost.Size
    else (if bytes_eq word (codes "speed") then Some a_cost.Speed else None)

-- that, or its size where the words don't say
abbrev pub cost_word_of : Option (List ℕ) → Option CostWord
cost_word_of None = Some a_cost.Size
cost_word_of (Some word) = cost_word word

-- what FILE is
abbrev pub file_kind : List ℕ → Option FileKind
file_kind word =
    if bytes_eq word (codes "module") then Some a_kind.Module
    else (if bytes_eq word (codes "code") then Some a_kind.Code else None)

-- what a mode may take FILE for: the FILE that gen writes is a module
abbrev pub kind_in : Mode → FileKind → Option FileKind
kind_in a_mode.Gen a_kind.Code = None
kind_in mode kind = Some kind

-- that, or a module where the words don't say
abbrev pub file_kind_of : Mode → Option (List ℕ) → Option FileKind
file_kind_of mode None = Some a_kind.Module
file_kind_of mode (Some word) = option_and_then (kind_in mode) (file_kind word)

-- the name of the image's file where the words don't say
abbrev pub default_image : List ℕ
default_image = codes "out.pri"

-- the image's name: not empty, and where an image file is written not FILE
abbrev pub is_image : Mode → List ℕ → List ℕ → Bool
is_image mode file word = not (is_empty word) && not (writes_image mode && bytes_eq word file)

abbrev pub image_of : Mode → List ℕ → Option (List ℕ) → Option (List ℕ)
image_of mode file word =
    if is_image mode file (unwrap_or word default_image) then Some (unwrap_or word default_image)
    else None

-- ---- the whole

-- what is done with FILE, its name, the rounds of allocation, what the code is to be cheap in, the
-- steps that a run is granted, the gap at which the rounds stop, what FILE is, the name of the file
-- that the image is written to, and the seed and the size of a generated module
pub record Asked : Type 0 where
  pub mode : Mode
  pub file : List ℕ
  pub rounds : ℕ
  pub cost : CostWord
  pub steps : ℕ
  pub gap : ℕ
  pub from : FileKind
  pub image : List ℕ
  pub seed : ℕ
  pub size : ℕ

-- What the values ask for, or the first word, in this order, whose value is none that it may have.
-- Of the numbers stand the default, the least and the most.
abbrev pub values_of : Line → Result Asked WordsFault
values_of line = do
  mode ← ok_or (mode_of line.mode) (Value a_word.Mode)
  file ← ok_or (file_of line.file) (Value a_word.File)
  rounds ← ok_or (value_of 10 0 1000 line.rounds) (Value a_word.Rounds)
  cost ← ok_or (cost_word_of line.cost) (Value a_word.Cost)
  steps ← ok_or (value_of 10000000 0 200000000 line.steps) (Value a_word.Steps)
  gap ← ok_or (value_of 0 0 4294967295 line.gap) (Value a_word.Gap)
  from ← ok_or (file_kind_of mode line.from) (Value a_word.From)
  image ← ok_or (image_of mode file line.image) (Value a_word.Image)
  seed ← ok_or (value_of 1 0 2147483647 line.seed) (Value a_word.Seed)
  size ← ok_or (value_of 10 1 200 line.size) (Value a_word.Size)
  Ok (record {
    mode = mode;
    file = file;
    rounds = rounds;
    cost = cost;
    steps = steps;
    gap = gap;
    from = from;
    image = image;
    seed = seed;
    size = size;
  })

abbrev pub asked_in : Option Line → Result Asked WordsFault
asked_in None = Err Words
asked_in (Some line) = values_of line

-- What the words ask for, or why they are refused.
abbrev pub asked_of : List (List ℕ) → Result Asked WordsFault
asked_of words = asked_in (line_of words)
