-- Instructions one behind the other, as bytes.
use Rattle.std.specs.Prelude.{◌≡◌, ℕ, List, [], ◌∷◌, ◌++◌}
use Rattle.ia_code.specs.declared.ins.Ins.{Ins}
use Rattle.ia_code.specs.DecodeTable.{bytes_of, IsSound}

-- the bytes of a list of instructions
abbrev pub bytes_of_all : List Ins → List ℕ
bytes_of_all [] = []
bytes_of_all (i ∷ is) = bytes_of i ++ bytes_of_all is

-- the table has each of them
abbrev pub AreSound : List Ins → Type 0
AreSound [] = Unit {0}
AreSound (i ∷ is) = IsSound i × AreSound is

-- the bytes are those of this list of instructions, from the first byte to the last
pub record IsListing (bytes : List ℕ) (is : List Ins) : Type 0 where
  pub sound : AreSound is
  pub spelled : bytes ≡ bytes_of_all is
