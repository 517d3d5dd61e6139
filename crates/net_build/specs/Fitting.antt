-- Lists of places beside the strands that they are for, where strands are told one after the other.
use Rattle.std.specs.Prelude.{ℕ, ◌+◌, Bool, false, nat_eq, if◌then◌else◌, List, [], ◌∷◌, length}
use Rattle.std.specs.Prelude.{Option, Some, None, slice_get}
use Rattle.pra_base.specs.declared.ids.Place.{Place}
use Rattle.net_form.specs.declared.net.Strand.{Strand}

-- there is a list of places, one for each layer of the strand
abbrev pub is_placed : Strand → Option (List Place) → Bool
is_placed s None = false
is_placed s (Some places) = nat_eq (s.first + length places) (s.last + 1)

-- the number of the list behind those of some strands, whose lists stand from number k on; none
-- where one of them is not as long as its strand
unfoldable pub behind : List Strand → List (List Place) → ℕ → Option ℕ
behind [] lists k = Some k
behind (s ∷ ss) lists k =
    if is_placed s (slice_get lists k) then behind ss lists (k + 1) else None
