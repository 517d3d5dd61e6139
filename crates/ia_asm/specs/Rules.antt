-- The rules of an image file's fields, in the order in which they are tested.
use Rattle.std.specs.Prelude.{◌≡◌, ℕ, ◌+◌, ◌&&◌, Bool, ◌==◌, nat_le, not, List, [], ◌∷◌, length}
use Rattle.std.specs.Prelude.{take, drop, Option, Some, Result, Ok, Err}
use Rattle.std.specs.List.{find}
use Rattle.std.specs.Int.{w32, from_le_bytes}
use Rattle.ia_code.specs.declared.image.Image.{Image}
use Rattle.ia_code.specs.Image.{IsImage, image_bytes_of}
use Rattle.ia_code.specs.Image.{magic, version, header_bytes, max_code_bytes, max_data_words}
use Rattle.ia_asm.specs.declared.image_file.Field.{Field}
use Rattle.ia_asm.specs.declared.image_file.Field.TheVariants.{Length, Magic, Version, CodeLength}
use Rattle.ia_asm.specs.declared.image_file.Field.TheVariants.{DataWords}
use Rattle.ia_asm.specs.declared.image_file.ImageFault.{ImageFault}
use Rattle.ia_asm.specs.declared.image_file.ImageFault.TheVariants.{BadImage, OutOfMemory}

-- where a field begins
abbrev pub place_of : Field → ℕ
place_of Length = 0
place_of Magic = 0
place_of Version = 4
place_of CodeLength = 8
place_of DataWords = 12

-- the number of 32 bits at a place, the lowest byte first
abbrev pub number_at : ℕ → List ℕ → ℕ
number_at place bytes = from_le_bytes w32 (take 4 (drop place bytes))

-- whether a field keeps its rule, where those before it keep theirs
abbrev pub keeps : List ℕ → Field → Bool
keeps bytes Length = nat_le header_bytes (length bytes)
keeps bytes Magic = number_at 0 bytes == magic
keeps bytes Version = number_at 4 bytes == version
keeps bytes CodeLength =
    let n = number_at 8 bytes in
    nat_le 1 n && nat_le n max_code_bytes && (length bytes == header_bytes + n)
keeps bytes DataWords = nat_le (number_at 12 bytes) max_data_words

-- the first field that breaks its rule
abbrev pub broken : List ℕ → Option Field
broken bytes =
    find (λ field. not (keeps bytes field)) (
    Length ∷ Magic ∷ Version ∷ CodeLength ∷ DataWords ∷ [])

-- a fault of these bytes: it names the first broken field and its place
abbrev pub IsFault : List ℕ → ImageFault → Type 0
IsFault bytes (BadImage field place) = (broken bytes ≡ Some field) × (place ≡ place_of field)
IsFault bytes OutOfMemory = Unit {0}

-- the bytes are the file of this image, which is valid
abbrev pub IsFileOf : List ℕ → Image → Type 0
IsFileOf bytes image = IsImage image × (bytes ≡ image_bytes_of image)

-- what is answered where the bytes are the file of this image
abbrev pub IsReadOrNoMemory : Image → Result Image ImageFault → Type 0
IsReadOrNoMemory image (Ok read) = read ≡ image
IsReadOrNoMemory image (Err fault) = fault ≡ OutOfMemory
