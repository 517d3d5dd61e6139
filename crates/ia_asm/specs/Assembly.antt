-- The code of procedures that are added one after the other. Calls are filled in at the end, when
-- it is known where each procedure begins.
use Rattle.std.specs.Prelude.{◌≡◌, ℕ, ◌≤◌, List, length, slice_get, slice_index_or, Some}
use Rattle.ia_code.specs.declared.image.Image.{Image}
use Rattle.ia_code.specs.Image.{IsImage, max_code_bytes, max_data_words}
use Rattle.ia_code.specs.Listing.{bytes_of_all, AreSound, IsListing}
use Rattle.ia_emit.specs.Code.{entry, code_with, code_of, code_size}
use Rattle.ia_emit.specs.Open.{Within, filled}
use Rattle.ia_emit.specs.Operands.{IsSmall}
use Rattle.ia_emit.specs.Sound.{OffsetsFit}
use Rattle.ia_asm.specs.declared.assembly.Assembly.{Assembly}
use Rattle.ia_asm.specs.declared.counting.CountedAssembly.{CountedAssembly}
use Rattle.pl_place.specs.declared.placed.LProc.{LProc}
use Rattle.pl_place.specs.Valid.{IsPlaced}

-- where procedures begin, by a list of their places; past its end, where the code ends
abbrev pub entry_in : List ℕ → ℕ → ℕ → ℕ
entry_in entries end k = slice_index_or entries k end

-- The assembly of these procedures, with so many words of data: wherever procedures begin, filling
-- the calls gives the bytes of the procedures' instructions. The offsets that were read have 32
-- bits.
pub record IsAssembly (procs : List LProc) (data_words : ℕ) (a : Assembly) : Type 0 where
  pub short : length a.code.items ≤ max_code_bytes
  pub within : Within 0 (length a.code.items) a.calls.items
  pub sound : (starts : ℕ → ℕ) → AreSound (code_with starts procs)
  pub filled_is : (starts : ℕ → ℕ) →
      filled starts 0 a.calls.items a.code.items ≡ bytes_of_all (code_with starts procs)
  pub count : length a.entries.items ≡ length procs
  pub entries : (k : ℕ) →
      entry_in a.entries.items (length a.code.items) k ≡ entry procs k
  pub words_are : a.data_words ≡ data_words
  pub few_words : data_words ≤ max_data_words
  pub offsets : OffsetsFit procs

-- The bytes of these procedures' code were counted, and as long as an image has room for it the code
-- is assembled.
pub record IsCounted (procs : List LProc) (data_words : ℕ) (c : CountedAssembly) : Type 0 where
  pub bytes : c.bytes ≡ code_size procs
  pub fits : code_size procs ≤ max_code_bytes → IsAssembly procs data_words c.assembly

-- nothing of an assembly has changed but the room that it has
pub record IsUnchanged (old new : Assembly) : Type 0 where
  pub code : new.code.items ≡ old.code.items
  pub calls : new.calls.items ≡ old.calls.items
  pub entries : new.entries.items ≡ old.entries.items
  pub data_words : new.data_words ≡ old.data_words

-- Procedures whose code an image holds: each is valid and small, and together they are not too
-- long.
pub record CanAssemble (procs : List LProc) : Type 0 where
  pub placed : (k : ℕ) (p : LProc) → slice_get procs k ≡ Some p → IsPlaced p
  pub small : (k : ℕ) (p : LProc) → slice_get procs k ≡ Some p → IsSmall p
  pub room : code_size procs ≤ max_code_bytes

-- The image of these procedures, with so many words of data: it is valid, and its code decodes to
-- the instructions of the procedures, from the first byte to the last.
pub record IsImageOf (procs : List LProc) (data_words : ℕ) (image : Image) : Type 0 where
  pub valid : IsImage image
  pub listing : IsListing image.code (code_of procs)
  pub words_are : image.data_words ≡ data_words
  pub offsets : OffsetsFit procs
