-- What a call writes, as one value, and what stands outside where all of it was written, or where
-- writing stopped. It is written in this order: the files, out, notes.
use Rattle.std.specs.Prelude.{◌≡◌, ◌≢◌, ◌⊎◌, ◌<◌, ◌≤◌, ◌-◌, ℕ, List, [], ◌∷◌, ◌++◌, map, take}
use Rattle.std.specs.Prelude.{length, ⊤}
use Rattle.std.specs.Prelude.{codes, Result, MatchResult}
use Rattle.std.specs.List.{AllByRecursion as Each}
use Rattle.std.specs.Io.KnownBytes.{Keeps, Appends}
use Rattle.ia_code.specs.declared.image.Image.{Image}
use Rattle.ia_code.specs.Image.{image_bytes_of}
use Rattle.pra_io.specs.declared.files.FileFault.{FileFault}
use Rattle.pra_io.specs.declared.files.FileFault.TheVariants.{Failed, TooLong, OutOfMemory}
use Rattle.pra_io.specs.Causes.{Rose}
use Rattle.pra_io.specs.Contents.{Becomes, AppendsFront}
use Rattle.pra_tool.specs.declared.status.Status.{Status}
use Rattle.pra_tool.specs.declared.status.Status.TheVariants.{Fault, NoMemory}
use Rattle.pra_tool.specs.Outside.{FolderSeen, Seen, Told, NoneFell}

pub record FileText : Type 0 where
  pub name : List ℕ
  pub bytes : List ℕ

pub record Writes : Type 0 where
  pub files : List FileText
  pub out : List ℕ
  pub notes : List ℕ

-- a text to out, and nothing else
abbrev pub text_alone : List ℕ → Writes
text_alone text = record { files = []; out = text; notes = [] }

-- the one file that is written
abbrev pub one_file : List ℕ → List ℕ → List FileText
one_file name bytes = record { name = name; bytes = bytes } ∷ []

abbrev pub image_file : List ℕ → Image → List FileText
image_file name image = one_file name (image_bytes_of image)

abbrev pub names : List FileText → List (List ℕ)
names = map (λ f. f.name)

-- ---- files

-- the name is none of the files'
abbrev pub IsOther : List ℕ → List FileText → Type 0
IsOther name [] = ⊤
IsOther name (f ∷ fs) = (name ≢ f.name) × IsOther name fs

-- no two files have one name
abbrev pub NamesDiffer : List FileText → Type 0
NamesDiffer files = (before after : List FileText) (f : FileText) →
    files ≡ before ++ f ∷ after → IsOther f.name before

-- no name but the files' changed
abbrev pub OthersStay : List FileText → FolderSeen → FolderSeen → Type 0
OthersStay files old new = (name : List ℕ) → IsOther name files → new.file name ≡ old.file name

-- each of the files holds its bytes, where the folder tells
abbrev pub Hold : List FileText → FolderSeen → FolderSeen → Type 0
Hold files old new = Each (λ f. Becomes (old.file f.name) (new.file f.name) f.bytes) files

-- these files were written, and no other
pub record Stored (files : List FileText) (old new : FolderSeen) : Type 0 where
  pub hold : Hold files old new
  pub others : OthersStay files old new

-- Writing stopped at a file, whose count rose: those before it stand, it may hold anything, and no
-- other name changed.
pub record FileFailed (files : List FileText) (old new : FolderSeen) : Type 0 where
  pub before : List FileText
  pub at : FileText
  pub after : List FileText
  pub order : files ≡ before ++ at ∷ after
  pub cause : Rose (old.write_faults at.name) (new.write_faults at.name)
  pub hold : Hold before old new
  pub others : OthersStay (before ++ at ∷ []) old new

-- Memory was wanting at a file: those before it stand, and no other name changed.
pub record FileLeft (files : List FileText) (old new : FolderSeen) : Type 0 where
  pub before : ℕ
  pub some_left : before ≤ length files - 1
  pub stored : Stored (take before files) old new

abbrev pub FilesStopped : List FileText → FileFault → FolderSeen → FolderSeen → Type 0
FilesStopped files Failed old new = FileFailed files old new
FilesStopped files TooLong old new = ⊥
FilesStopped files OutOfMemory old new = FileLeft files old new

abbrev pub FilesWritten : {T : Type 0} → List FileText → Result T FileFault → FolderSeen →
    FolderSeen → Type 0
FilesWritten files result old new =
    MatchResult result (λ _. Stored files old new) (λ f. FilesStopped files f old new)

-- the status of a call that stopped at a file
abbrev pub stop_status : FileFault → Status
stop_status Failed = Fault
stop_status TooLong = Fault
stop_status OutOfMemory = NoMemory

-- ---- all that a call writes

-- all was written
pub record WroteAll (w : Writes) (old new : Seen) : Type 0 where
  pub files : Stored w.files old.folder new.folder
  pub out : Appends old.out.bytes new.out.bytes w.out
  pub notes : Appends old.notes.bytes new.notes.bytes w.notes

-- it stopped at a file: out is as it was
pub record StoppedAtFile (w : Writes) (old new : Seen) : Type 0 where
  pub files : FileFailed w.files old.folder new.folder
  pub out : Keeps old.out.bytes new.out.bytes
  pub notes : Told (codes "fault write file\n") old.notes new.notes

-- it stopped at out, for which there was something and whose count rose: the files stand, and out
-- has a prefix of its text
pub record StoppedAtOut (w : Writes) (old new : Seen) : Type 0 where
  pub some : 0 < length w.out
  pub cause : Rose old.out.faults new.out.faults
  pub files : Stored w.files old.folder new.folder
  pub out : AppendsFront old.out.bytes new.out.bytes w.out
  pub notes : Told (codes "fault write out\n") old.notes new.notes

-- it stopped at notes, for which there was something and whose count rose: files and out stand, and
-- notes has a prefix of its text
pub record StoppedAtNotes (w : Writes) (old new : Seen) : Type 0 where
  pub some : 0 < length w.notes
  pub cause : Rose old.notes.faults new.notes.faults
  pub files : Stored w.files old.folder new.folder
  pub out : Appends old.out.bytes new.out.bytes w.out
  pub notes : AppendsFront old.notes.bytes new.notes.bytes w.notes

abbrev pub Stopped : Writes → Seen → Seen → Type 0
Stopped w old new = StoppedAtFile w old new ⊎ StoppedAtOut w old new ⊎ StoppedAtNotes w old new

-- Memory was wanting: nothing was written but for the files before.
pub record LeftOff (w : Writes) (old new : Seen) : Type 0 where
  pub files : FileLeft w.files old.folder new.folder
  pub out : Keeps old.out.bytes new.out.bytes
  pub notes : Keeps old.notes.bytes new.notes.bytes

-- What is left by writing all this, where all is well to end with the status.
pub record Wrote (w : Writes) (status : Status) (old new : Seen) (result : Status) : Type 0 where
  pub known : (result ≡ status) ⊎ (result ≡ Fault) ⊎ (result ≡ NoMemory)
  pub written : result ≡ status → WroteAll w old new
  pub stopped : result ≡ Fault → Stopped w old new
  pub left_off : result ≡ NoMemory → LeftOff w old new
  pub counts : NoneFell old.folder new.folder

-- ---- no fault

-- the name is one of these
pub record IsOneOf (name : List ℕ) (names : List (List ℕ)) : Type 0 where
  pub before : List (List ℕ)
  pub after : List (List ℕ)
  pub order : names ≡ before ++ name ∷ after

-- none of the counts that writing may raise rose: those of these files, of out and of notes
pub record NoWriteFault (names : List (List ℕ)) (old new : Seen) : Type 0 where
  pub files : (name : List ℕ) → IsOneOf name names →
      Rose (old.folder.write_faults name) (new.folder.write_faults name) → ⊥
  pub out : Rose old.out.faults new.out.faults → ⊥
  pub notes : Rose old.notes.faults new.notes.faults → ⊥
