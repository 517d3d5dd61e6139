-- What stands outside the program at a moment, and what a refusal leaves there.
use Rattle.std.specs.Prelude.{◌≡◌, ◌≤◌, ℕ, List}
use Rattle.std.specs.declared.option.Option.{Option}
use Rattle.std.specs.Io.KnownBytes.{Keeps, Appends}
use Rattle.pra_io.specs.Causes.{Rose}
use Rattle.pra_io.specs.Contents.{AppendsFront}

-- what each name holds, where the folder tells it (Some None: absent), and the counts of faults
pub record FolderSeen : Type 0 where
  pub file : List ℕ → Option (Option (List ℕ))
  pub read_faults : List ℕ → ℕ
  pub write_faults : List ℕ → ℕ

-- what stands in an output or is left in an input, where it tells it, and its count of faults
pub record StreamSeen : Type 0 where
  pub bytes : Option (List ℕ)
  pub faults : ℕ

pub record Seen : Type 0 where
  pub folder : FolderSeen
  pub input : StreamSeen
  pub out : StreamSeen
  pub notes : StreamSeen

-- a folder, by what it tells of itself
abbrev pub folder_seen : {D : Type 0} → (D → List ℕ → Option (Option (List ℕ))) →
    (D → List ℕ → ℕ) → (D → List ℕ → ℕ) → D → FolderSeen
folder_seen file reads writes d =
    record { file = file d; read_faults = reads d; write_faults = writes d }

-- an output or an input, by what it tells of itself
abbrev pub stream_seen : {S : Type 0} → (S → Option (List ℕ)) → (S → ℕ) → S → StreamSeen
stream_seen bytes faults s = record { bytes = bytes s; faults = faults s }

abbrev pub seen : FolderSeen → (input out notes : StreamSeen) → Seen
seen folder input out notes =
    record { folder = folder; input = input; out = out; notes = notes }

-- all of it, by what a folder, an input, an output and the notes tell of themselves
abbrev pub seen_by : {D I O N : Type 0} → (D → List ℕ → Option (Option (List ℕ))) →
    (reads writes : D → List ℕ → ℕ) → (I → Option (List ℕ)) → (I → ℕ) →
    (O → Option (List ℕ)) → (O → ℕ) → (N → Option (List ℕ)) → (N → ℕ) → D → I → O → N → Seen
seen_by file reads writes left input_faults bytes out_faults lines notes_faults d i o n =
    seen (folder_seen file reads writes d) (stream_seen left input_faults i)
    (stream_seen bytes out_faults o) (stream_seen lines notes_faults n)

-- no file changed
abbrev pub SameFiles : FolderSeen → FolderSeen → Type 0
SameFiles old new = (name : List ℕ) → new.file name ≡ old.file name

-- the lines were told: a prefix of them stands in notes, all of them where its count did not rise
pub record Told (lines : List ℕ) (old new : StreamSeen) : Type 0 where
  pub front : AppendsFront old.bytes new.bytes lines
  pub whole : (Rose old.faults new.faults → ⊥) → Appends old.bytes new.bytes lines

-- a refusal: no file changed, out is as it was, and the lines were told
pub record Refused (lines : List ℕ) (old new : Seen) : Type 0 where
  pub files : SameFiles old.folder new.folder
  pub out : Keeps old.out.bytes new.out.bytes
  pub notes : Told lines old.notes new.notes

-- nothing was written
pub record Untouched (old new : Seen) : Type 0 where
  pub files : SameFiles old.folder new.folder
  pub out : Keeps old.out.bytes new.out.bytes
  pub notes : Keeps old.notes.bytes new.notes.bytes

-- no count of a folder fell
pub record NoneFell (old new : FolderSeen) : Type 0 where
  pub read : (name : List ℕ) → old.read_faults name ≤ new.read_faults name
  pub write : (name : List ℕ) → old.write_faults name ≤ new.write_faults name
