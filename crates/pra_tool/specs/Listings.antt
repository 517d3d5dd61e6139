-- What the modes make and refuse that list an image as text and assemble it from its text.
use Rattle.std.specs.Prelude.{◌≡◌, ◌<◌, ◌≤◌, ◌+◌, ℕ, List, [], length}
use Rattle.ia_code.specs.declared.image.Image.{Image}
use Rattle.ia_code.specs.Image.{IsImage, header_bytes, max_code_bytes}
use Rattle.ia_asm.specs.declared.image_file.ImageFault.TheVariants.{BadImage}
use Rattle.ia_asm.specs.Rules.{IsFault, IsFileOf}
use Rattle.ia_list.specs.declared.listing.ListFault.{ListFault}
use Rattle.ia_list.specs.declared.listing.ListFault.TheVariants as list
use Rattle.ia_list.specs.declared.assembly.AsmFault.TheVariants as asm
use Rattle.ia_list.specs.ListText.{IsListText, StopsAt, IsAsmFault, max_text_bytes}
use Rattle.pra_tool.specs.declared.listing.Unlisted.{Unlisted}
use Rattle.pra_tool.specs.declared.listing.Unlisted.TheVariants as unlisted
use Rattle.pra_tool.specs.declared.listing.Unassembled.{Unassembled}
use Rattle.pra_tool.specs.declared.listing.Unassembled.TheVariants as unassembled
use Rattle.pra_tool.specs.declared.status.Status.{Status}
use Rattle.pra_tool.specs.declared.status.Status.TheVariants.{Ended, BadSource, OverLimit, NoMemory}
use Rattle.pra_tool.specs.Texts.{unlisted_line, unassembled_line}
use Rattle.pra_tool.specs.Writes.{Writes, text_alone}
use Rattle.pra_tool.specs.Modes.{Kind}

-- ---- images that are listed

-- the most bytes of an image's file
abbrev pub most_image : ℕ
most_image = header_bytes + max_code_bytes

-- The file is that of a valid image, and this is its text.
pub record IsListed (file text : List ℕ) : Type 0 where
  pub image : Image
  pub held : IsFileOf file image
  pub listed : IsListText image text

-- The file is that of a valid image, in whose code no instruction begins at this place.
pub record StopsIn (file : List ℕ) (place : ℕ) : Type 0 where
  pub image : Image
  pub held : IsFileOf file image
  pub stops : StopsAt image.code place

-- The file is that of a valid image, whose text has so many bytes, which are too many.
pub record IsTextLong (file : List ℕ) (count : ℕ) : Type 0 where
  pub text : List ℕ
  pub listed : IsListed file text
  pub count_is : count ≡ length text
  pub over : max_text_bytes < count

-- what is wrong with a file that is to be listed
abbrev pub IsUnlisted : List ℕ → Unlisted → Type 0
IsUnlisted file unlisted.TooLong = most_image < length file
IsUnlisted file (unlisted.Broken field place) =
    (length file ≤ most_image) × IsFault file (BadImage field place)
IsUnlisted file (unlisted.Code place) = StopsIn file place
IsUnlisted file (unlisted.LongText count) = IsTextLong file count
IsUnlisted file unlisted.OutOfMemory = ⊥

-- what is wrong with a file that is to run: it is none of an image
abbrev pub IsUnloaded : List ℕ → Unlisted → Type 0
IsUnloaded file unlisted.TooLong = IsUnlisted file unlisted.TooLong
IsUnloaded file (unlisted.Broken field place) = IsUnlisted file (unlisted.Broken field place)
IsUnloaded file fault = ⊥

-- why an image has no text, as it is told
abbrev pub unlisted_by : ListFault → Unlisted
unlisted_by (list.NotInSubset place) = unlisted.Code place
unlisted_by list.OutOfMemory = unlisted.OutOfMemory

abbrev pub unlisted_status : Unlisted → Status
unlisted_status unlisted.TooLong = OverLimit
unlisted_status (unlisted.Broken field place) = BadSource
unlisted_status (unlisted.Code place) = BadSource
unlisted_status (unlisted.LongText count) = OverLimit
unlisted_status unlisted.OutOfMemory = NoMemory

-- the images: files of valid images with a text that is not too long
abbrev pub images : Kind
images = record {
  Wrong = Unlisted;
  IsWrong = IsUnlisted;
  line = unlisted_line;
  status = unlisted_status;
  IsRight = λ file. (text : List ℕ) × IsListed file text × (length text ≤ max_text_bytes);
}

-- the images that run: files of valid images
abbrev pub loadable : Kind
loadable = record {
  Wrong = Unlisted;
  IsWrong = IsUnloaded;
  line = unlisted_line;
  status = unlisted_status;
  IsRight = λ file. (image : Image) × IsFileOf file image;
}

-- What `list` makes of an image's file; the input, which it does not read, counts as empty.
pub record ListMakes (file input : List ℕ) (w : Writes) (s : Status) : Type 0 where
  pub text : List ℕ
  pub listed : IsListed file text
  pub few : length text ≤ max_text_bytes
  pub no_input : input ≡ []
  pub writes : w ≡ text_alone text
  pub done : s ≡ Ended

-- ---- texts that are assembled

-- the text is that of a valid image, and is not too long
abbrev pub IsTextOf : List ℕ → Image → Type 0
IsTextOf text image = (length text ≤ max_text_bytes) × IsImage image × IsListText image text

-- what is wrong with a text that is to be assembled
abbrev pub IsUnassembled : List ℕ → Unassembled → Type 0
IsUnassembled text unassembled.TooLong = max_text_bytes < length text
IsUnassembled text (unassembled.Line number) =
    (length text ≤ max_text_bytes) × IsAsmFault text (asm.BadLine number)
IsUnassembled text unassembled.Empty =
    (length text ≤ max_text_bytes) × IsAsmFault text asm.Empty
IsUnassembled text unassembled.OutOfMemory = ⊥

abbrev pub unassembled_status : Unassembled → Status
unassembled_status unassembled.TooLong = OverLimit
unassembled_status (unassembled.Line number) = BadSource
unassembled_status unassembled.Empty = BadSource
unassembled_status unassembled.OutOfMemory = NoMemory

-- the listings: texts of images
abbrev pub listings : Kind
listings = record {
  Wrong = Unassembled;
  IsWrong = IsUnassembled;
  line = unassembled_line;
  status = unassembled_status;
  IsRight = λ text. (image : Image) × IsTextOf text image;
}
