-- The place that a strand is given at a layer: its home where it may be there, else the first
-- register that it may have and that no strand before it has on a side at which it is.
use Rattle.std.specs.Prelude.{ℕ, ◌+◌, Bool, ◌&&◌, not, nat_eq, if◌then◌else◌, List, [], ◌∷◌, map}
use Rattle.std.specs.Prelude.{length, unwrap_or, find, slice_index, bit_or}
use Rattle.std.specs.List.{range_with_len}
use Rattle.std.specs.Int.{bit_at}
use Rattle.pra_base.specs.declared.ids.Place.{Place}
use Rattle.pra_base.specs.declared.ids.Place.TheVariants.{Eax, Ecx, Edx, Ebx, Esi, Edi}
use Rattle.pra_base.specs.Places.{number, allows}
use Rattle.net_form.specs.declared.net.Net.{Net}
use Rattle.net_form.specs.Strands.{across}
use Rattle.net_form.specs.Admitted.{strand_at}
use Rattle.net_laws.specs.Homes.{home_of, passes, allowed, needs_register}
use Rattle.al_laws.specs.Parts.{layer_at}

abbrev pub six : List Place
six = Eax ∷ Ecx ∷ Edx ∷ Ebx ∷ Esi ∷ Edi ∷ []

abbrev pub may_pick : ℕ → ℕ → Place → Bool
may_pick mask busy p = allows mask (number p) && not (nat_eq (bit_at busy (number p)) 1)

-- the first register of the mask that is not among the busy ones, or EAX where there is none
abbrev pub pick : ℕ → ℕ → Place
pick mask busy = unwrap_or (find (may_pick mask busy) six) Eax

-- the registers in use where the strand would be
abbrev pub busy_at : Net → List ℕ → ℕ → ℕ → ℕ
busy_at net regs s l =
    let here = slice_index regs (layer_at net s l) in
    if passes (strand_at net s) l
    then bit_or here (slice_index regs (layer_at net s (across l))) else here

abbrev pub place_for : Net → List ℕ → ℕ → ℕ → Place
place_for net regs s l =
    let t = strand_at net s in
    if needs_register net s l then pick (allowed t l) (busy_at net regs s l) else home_of t

abbrev pub path_for : Net → List ℕ → ℕ → List Place
path_for net regs s =
    let t = strand_at net s in
    map (place_for net regs s) (range_with_len t.first (length t.masks))
