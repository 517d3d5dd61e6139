-- What a mode promises, whatever it makes of its source and its input. The source is what FILE
-- holds, or the mode makes it.
use Rattle.std.specs.Prelude.{◌≡◌, ◌≢◌, ◌⊎◌, ℕ, List, [], Bool, true, false, None, Some, ⊤, codes}
use Rattle.std.specs.declared.option.Option.{Option}
use Rattle.std.specs.Io.KnownBytes.{IsAtEnd}
use Rattle.pra_io.specs.Causes.{Rose}
use Rattle.pra_io.specs.Contents.{Holds, IsAllOf}
use Rattle.pra_tool.specs.declared.status.Status.{Status}
use Rattle.pra_tool.specs.declared.status.Status.TheVariants.{Fault, BadWords, NoMemory}
use Rattle.pra_tool.specs.Status.{IsDone, IsRefusal}
use Rattle.pra_tool.specs.Outside.{StreamSeen, Seen, Refused}
use Rattle.pra_tool.specs.Writes.{Writes, names, WroteAll, Stopped, NoWriteFault}

-- What may be wrong with a text, when it is, the line that tells it, and its status; and when
-- nothing is.
pub record Kind : Type 1 where
  pub Wrong : Type 0
  pub IsWrong : List ℕ → Wrong → Type 0
  pub line : Wrong → List ℕ
  pub status : Wrong → Status
  pub IsRight : List ℕ → Type 0

-- What differs from mode to mode.
pub record Mode : Type 1 where
  -- the source, which FILE holds, or the one that the mode makes
  pub source : Kind
  pub own : Option (List ℕ)
  -- the input, which a mode that does not read it has as an empty text
  pub input : Kind
  pub reads_input : Bool
  -- what is made of a source and an input: all that is written, and the status of that
  pub Makes : List ℕ → List ℕ → Writes → Status → Type 0
  -- what is made of them is refused: the line that tells it, and the status of that
  pub Refuses : List ℕ → List ℕ → List ℕ → Status → Type 0
  -- the files that are written
  pub files : List (List ℕ)
  -- what stands outside where memory was wanting
  pub Leaves : Seen → Seen → Type 0

-- At most one thing is wrong with a text, and the text is refused for it.
pub record IsKind (kind : Kind) : Type 0 where
  pub one_wrong : (text : List ℕ) (f g : kind.Wrong) → kind.IsWrong text f → kind.IsWrong text g →
      f ≡ g
  pub never_both : (text : List ℕ) (f : kind.Wrong) → kind.IsRight text → kind.IsWrong text f → ⊥
  pub refuses : (text : List ℕ) (f : kind.Wrong) → kind.IsWrong text f →
      IsRefusal (kind.status f)

-- The mode is one: what the answers of any mode rest on.
pub record IsMode (m : Mode) : Type 0 where
  pub source : IsKind m.source
  pub input : IsKind m.input
  pub right : (source input : List ℕ) (w : Writes) (s : Status) → m.Makes source input w s →
      m.source.IsRight source × m.input.IsRight input
  pub done : (source input : List ℕ) (w : Writes) (s : Status) → m.Makes source input w s →
      IsDone s
  pub right_then : (source input line : List ℕ) (s : Status) → m.Refuses source input line s →
      m.source.IsRight source × m.input.IsRight input
  pub refuses : (source input line : List ℕ) (s : Status) → m.Refuses source input line s →
      IsRefusal s
  pub writes : (source input : List ℕ) (w : Writes) (s : Status) → m.Makes source input w s →
      names w.files ≡ m.files

-- ---- the source

-- the source, as it is told
abbrev pub source_told : Option (List ℕ) → List ℕ → Seen → Option (Option (List ℕ))
source_told None file s = s.folder.file file
source_told (Some text) file s = Some (Some text)

-- the count of reading FILE rose, where FILE is read
abbrev pub SourceFault : Option (List ℕ) → List ℕ → Seen → Seen → Type 0
SourceFault None file old new =
    Rose (old.folder.read_faults file) (new.folder.read_faults file)
SourceFault (Some text) file old new = ⊥

-- ---- the input

-- these are all the bytes of an input that is read; of one that is not, none are
abbrev pub IsInput : Bool → StreamSeen → List ℕ → Type 0
IsInput true stream bytes = IsAllOf stream.bytes bytes
IsInput false stream bytes = bytes ≡ []

-- and the input tells them
abbrev pub TellsInput : Bool → StreamSeen → List ℕ → Type 0
TellsInput true stream bytes = stream.bytes ≡ Some bytes
TellsInput false stream bytes = bytes ≡ []

-- an input that is read is read to its end, and another is left alone
abbrev pub IsLeft : Bool → StreamSeen → StreamSeen → Type 0
IsLeft true old new = IsAtEnd new.bytes
IsLeft false old new = new ≡ old

-- the count of an input that is read did not rise
abbrev pub NoInputFault : Bool → StreamSeen → StreamSeen → Type 0
NoInputFault true old new = Rose old.faults new.faults → ⊥
NoInputFault false old new = ⊤

-- ---- all was well

-- The source was read whole, and so was the input where the mode reads it, and this was made of
-- them.
pub record IsDoneBy (m : Mode) (file : List ℕ) (old new : Seen) (w : Writes) (s : Status)
    : Type 0 where
  pub source : List ℕ
  pub read : Holds (source_told m.own file old) source
  pub input : List ℕ
  pub taken : IsInput m.reads_input old.input input
  pub left : IsLeft m.reads_input old.input new.input
  pub made : m.Makes source input w s

-- All that was made was written, and the status is that of it.
pub record Performed (m : Mode) (file : List ℕ) (old new : Seen) (status : Status) : Type 0 where
  pub writes : Writes
  pub made : IsDoneBy m file old new writes status
  pub written : WroteAll writes old new

-- Writing what was made stopped, and what is before that stands whole.
pub record NotWritten (m : Mode) (file : List ℕ) (old new : Seen) : Type 0 where
  pub writes : Writes
  pub status : Status
  pub made : IsDoneBy m file old new writes status
  pub stopped : Stopped writes old new

-- ---- what is refused

-- Something is wrong with a text, and its line is told.
pub record TextRefused (kind : Kind) (text : List ℕ) (old new : Seen) (status : Status)
    : Type 0 where
  pub fault : kind.Wrong
  pub wrong : kind.IsWrong text fault
  pub status_is : status ≡ kind.status fault
  pub left : Refused (kind.line fault) old new

-- The source is refused; the input was left alone.
pub record SourceRefused (m : Mode) (file : List ℕ) (old new : Seen) (status : Status)
    : Type 0 where
  pub source : List ℕ
  pub read : Holds (source_told m.own file old) source
  pub refused : TextRefused m.source source old new status
  pub alone : new.input ≡ old.input

-- Nothing is wrong with the source.
pub record SourceRight (m : Mode) (file : List ℕ) (old : Seen) : Type 0 where
  pub source : List ℕ
  pub read : Holds (source_told m.own file old) source
  pub right : m.source.IsRight source

-- Nothing is wrong with the source, and the input is refused.
pub record InputRefused (m : Mode) (file : List ℕ) (old new : Seen) (status : Status)
    : Type 0 where
  pub source : SourceRight m file old
  pub input : List ℕ
  pub taken : IsInput m.reads_input old.input input
  pub refused : TextRefused m.input input old new status

-- Nothing is wrong with the source and the input, which were read whole, and what is made of them
-- is refused.
pub record MadeRefused (m : Mode) (file : List ℕ) (old new : Seen) (status : Status)
    : Type 0 where
  pub source : List ℕ
  pub read : Holds (source_told m.own file old) source
  pub input : List ℕ
  pub taken : IsInput m.reads_input old.input input
  pub left : IsLeft m.reads_input old.input new.input
  pub line : List ℕ
  pub refused : m.Refuses source input line status
  pub told : Refused line old new

-- ---- what was not read

-- FILE was not read, for a fault of the folder at reading it; the input was left alone.
pub record FileNotRead (m : Mode) (file : List ℕ) (old new : Seen) : Type 0 where
  pub cause : SourceFault m.own file old new
  pub left : Refused (codes "fault read file\n") old new
  pub alone : new.input ≡ old.input

-- Nothing is wrong with the source, and the input, which the mode reads, was not read, for a fault
-- of it.
pub record InputNotRead (m : Mode) (file : List ℕ) (old new : Seen) : Type 0 where
  pub source : SourceRight m file old
  pub reads : m.reads_input ≡ true
  pub cause : Rose old.input.faults new.input.faults
  pub left : Refused (codes "fault read input\n") old new

-- ---- the whole

-- a text is refused for this, unless memory was wanting
abbrev pub IsRefusedFor : (kind : Kind) → kind.Wrong → Seen → Seen → Status → Type 0
IsRefusedFor kind f old new status =
    ((status ≡ kind.status f) × Refused (kind.line f) old new) ⊎ (status ≡ NoMemory)

-- What a call in the mode answers and leaves, by its status.
pub record Answers (m : Mode) (file : List ℕ) (old new : Seen) (status : Status) : Type 0 where
  pub known : status ≢ BadWords
  pub performed : IsDone status → Performed m file old new status
  pub refused : IsRefusal status →
      SourceRefused m file old new status ⊎ InputRefused m file old new status ⊎
      MadeRefused m file old new status
  pub fault : status ≡ Fault →
      FileNotRead m file old new ⊎ InputNotRead m file old new ⊎ NotWritten m file old new
  pub memory : status ≡ NoMemory → m.Leaves old new
  -- whatever is wrong with a source is told by its own line, unless the count of reading FILE rose
  pub refused_exactly : (source : List ℕ) (f : m.source.Wrong) →
      source_told m.own file old ≡ Some (Some source) → m.source.IsWrong source f →
      IsRefusedFor m.source f old new status ⊎ SourceFault m.own file old new
  -- and so is whatever is wrong with the input, unless that of the input rose
  pub input_exactly : (source input : List ℕ) (f : m.input.Wrong) →
      source_told m.own file old ≡ Some (Some source) → m.source.IsRight source →
      TellsInput m.reads_input old.input input → m.input.IsWrong input f →
      IsRefusedFor m.input f old new status ⊎ SourceFault m.own file old new ⊎
      Rose old.input.faults new.input.faults
  -- and where nothing is, and no count rises, all is done, or what was made is refused
  pub complete : (source input : List ℕ) → source_told m.own file old ≡ Some (Some source) →
      m.source.IsRight source → TellsInput m.reads_input old.input input →
      m.input.IsRight input →
      (SourceFault m.own file old new → ⊥) →
      NoInputFault m.reads_input old.input new.input → NoWriteFault m.files old new →
      IsDone status ⊎ (status ≡ NoMemory) ⊎ MadeRefused m file old new status
