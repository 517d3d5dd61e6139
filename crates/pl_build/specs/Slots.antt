-- Which variables come to memory.
use Rattle.std.specs.Prelude.{ℕ, Bool, false, if◌then◌else◌, List, [], ◌∷◌, slice_index_or}
use Rattle.std.specs.List.{list_any}
use Rattle.pra_base.specs.declared.ids.Place.{Place}
use Rattle.pra_base.specs.Places.{number, needs_slot}

abbrev pub comes_to_memory : List Place → Bool
comes_to_memory path = list_any (λ place. needs_slot (number place)) path

abbrev pub marked : List Bool → ℕ → Bool
marked marks v = slice_index_or marks v false

abbrev pub only_if : Bool → ℕ → List ℕ
only_if b v = if b then v ∷ [] else []
