-- The text of an image, and what the two calls answer.
use Rattle.std.specs.Prelude.{◌≡◌, ℕ, zero, suc, ◌+◌, ◌-◌, ◌≤◌, List, [], ◌∷◌, ◌++◌, length, take}
use Rattle.std.specs.Prelude.{drop}
use Rattle.std.specs.Prelude.{Result, Ok, Err}
use Rattle.ia_code.specs.declared.ins.Ins.{Ins}
use Rattle.ia_code.specs.declared.image.Image.{Image}
use Rattle.ia_code.specs.DecodeTable.{bytes_of, Row}
use Rattle.ia_code.specs.Listing.{bytes_of_all, AreSound, IsListing}
use Rattle.ia_code.specs.Image.{IsImage, max_data_words}
use Rattle.ia_list.specs.declared.listing.ListFault.{ListFault}
use Rattle.ia_list.specs.declared.listing.ListFault.TheVariants as listing
use Rattle.ia_list.specs.declared.assembly.AsmFault.{AsmFault}
use Rattle.ia_list.specs.declared.assembly.AsmFault.TheVariants as assembly
use Rattle.ia_list.specs.Text.{line, data_line}

-- the lines of instructions one behind the other, of which the first stands at this place
abbrev pub lines : ℕ → List Ins → List ℕ
lines place [] = []
lines place (i ∷ ins) = line place i ++ lines (place + length (bytes_of i)) ins

-- a whole text
abbrev pub text_of : ℕ → List Ins → List ℕ
text_of words ins = data_line words ++ lines 0 ins

-- this is the text of the image
pub record IsListText (image : Image) (text : List ℕ) : Type 0 where
  pub ins : List Ins
  pub listing : IsListing image.code ins
  pub written : text ≡ text_of image.data_words ins

-- an instruction of this size stands at this place in the code
abbrev pub StandsAt : List ℕ → ℕ → Ins → ℕ → Type 0
StandsAt code place i size = Row (take size (drop place code)) i size

-- What list_text answers where there is no such text: at this place, where the instructions before
-- it end, there is code, and it begins with none of the table's.
pub record StopsAt (code : List ℕ) (place : ℕ) : Type 0 where
  pub ins : List Ins
  pub rest : List ℕ
  pub sound : AreSound ins
  pub code_is : code ≡ bytes_of_all ins ++ rest
  pub place_is : place ≡ length (bytes_of_all ins)
  pub some : 1 ≤ length rest
  pub none : (i : Ins) (n : ℕ) → Row (take n rest) i n → ⊥

abbrev pub IsListFault : Image → ListFault → Type 0
IsListFault image (listing.NotInSubset place) = StopsAt image.code place
IsListFault image listing.OutOfMemory = Unit {0}

-- what is told of a place at which no instruction stands
abbrev pub NoneStandsAt : List ℕ → ℕ → ListFault → Type 0
NoneStandsAt code place (listing.NotInSubset told) =
    (told ≡ place) × ((i : Ins) (size : ℕ) → StandsAt code place i size → ⊥)
NoneStandsAt code place listing.OutOfMemory = Unit {0}

-- how many bytes asm_text takes at most
abbrev pub max_text_bytes : ℕ
max_text_bytes = 67108864

-- so many lines at the front of the bytes are those of a text, and the rest is behind them
pub record HasLines (bytes : List ℕ) (count : ℕ) (rest : List ℕ) : Type 0 where
  pub words : ℕ
  pub ins : List Ins
  pub few : words ≤ max_data_words
  pub sound : AreSound ins
  pub count_is : count ≡ length ins + 1
  pub written : bytes ≡ text_of words ins ++ rest

-- so many lines are there, and something behind them; of none nothing is asked
abbrev pub HasMore : List ℕ → ℕ → Type 0
HasMore bytes zero = Unit {0}
HasMore bytes (suc n) = (rest : List ℕ) × HasLines bytes (suc n) rest × (1 ≤ length rest)

-- this line, counted from 1, is the first that no text has there
pub record IsBadLine (bytes : List ℕ) (number : ℕ) : Type 0 where
  pub counted : 1 ≤ number
  pub before : HasMore bytes (number - 1)
  pub bad : (rest : List ℕ) → HasLines bytes number rest → ⊥

-- a right first line alone
abbrev pub IsEmptyText : List ℕ → Type 0
IsEmptyText bytes = (words : ℕ) × (words ≤ max_data_words) × (bytes ≡ data_line words)

abbrev pub IsAsmFault : List ℕ → AsmFault → Type 0
IsAsmFault bytes (assembly.BadLine number) = IsBadLine bytes number
IsAsmFault bytes assembly.Empty = IsEmptyText bytes
IsAsmFault bytes assembly.OutOfMemory = Unit {0}

-- what asm_text answers
abbrev pub Assembles : List ℕ → Result Image AsmFault → Type 0
Assembles bytes (Ok image) = IsImage image × IsListText image bytes
Assembles bytes (Err fault) = IsAsmFault bytes fault
