-- Lists of places, one for each variable, while they are filled.
use Rattle.std.specs.Prelude.{◌≡◌, ℕ, ◌<◌, List, length, slice_get, Some, Contains}
use Rattle.pra_base.specs.declared.code.VInstr.{VInstr}
use Rattle.pra_base.specs.Valid.{Names}
use Rattle.vc_tidy.specs.Joined.{places_of}
use Rattle.vc_tidy.specs.declared.places.Place.{Place}

-- nothing that was in a list has gone
abbrev pub Keep : List (List Place) → List (List Place) → Type 0
Keep old new = (v : ℕ) (p : Place) → Contains (places_of old v) p → Contains (places_of new v) p

-- there is a list for each variable of the instruction
abbrev pub FitsIn : List (List Place) → VInstr → Type 0
FitsIn lists i = (v : ℕ) → Names i v → v < length lists

abbrev pub FitAll : List (List Place) → List VInstr → Type 0
FitAll lists code = (k : ℕ) (i : VInstr) → slice_get code k ≡ Some i → FitsIn lists i

-- the place is in the list of each variable of the instruction
abbrev pub Notes : List (List Place) → VInstr → Place → Type 0
Notes lists i p = (v : ℕ) → Names i v → Contains (places_of lists v) p

-- so it is for the first so many instructions of a block
abbrev pub NotesBlock : List (List Place) → List VInstr → ℕ → ℕ → Type 0
NotesBlock lists code b n =
    (k : ℕ) (i : VInstr) → k < n → slice_get code k ≡ Some i →
    Notes lists i (record { block = b; index = k })
