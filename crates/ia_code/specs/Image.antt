-- Which images are valid, and their form as a file.
use Rattle.std.specs.Prelude.{ℕ, ◌≤◌, List, ◌++◌, length}
use Rattle.std.specs.Int.{w32, to_le_bytes}
use Rattle.ia_code.specs.declared.image.Image.{Image}

-- the letters PRAI, 50 52 41 49, as a number whose lowest byte is first
abbrev pub magic : ℕ
magic = 0x4941_5250

-- the version of the format
abbrev pub version : ℕ
version = 1

-- how many bytes stand before the code
abbrev pub header_bytes : ℕ
header_bytes = 16

-- how long the code may be, and how many doublewords of data there may be
abbrev pub max_code_bytes : ℕ
max_code_bytes = 41943040

abbrev pub max_data_words : ℕ
max_data_words = 4194304

-- a valid image
pub record IsImage (image : Image) : Type 0 where
  pub some_code : 1 ≤ length image.code
  pub code : length image.code ≤ max_code_bytes
  pub data_words : image.data_words ≤ max_data_words

-- a number of 32 bits, the lowest byte first
abbrev pub number : ℕ → List ℕ
number n = to_le_bytes w32 n

-- the numbers before the code: magic, version, how many bytes of code, how many words of data
abbrev pub header : Image → List ℕ
header image =
    number magic ++ number version ++ number (length image.code) ++ number image.data_words

-- the bytes of an image's file
abbrev pub image_bytes_of : Image → List ℕ
image_bytes_of image = header image ++ image.code
