-- The extras of a strand, and those at one of its layers.
use Rattle.std.specs.Prelude.{ℕ, if◌then◌else◌, List, Option, None}
use Rattle.std.specs.List.{filter_map, flat_map, enumerate_from}
use Rattle.pra_base.specs.declared.ids.Place.{Place}
use Rattle.pra_base.specs.declared.code.VInstr.{VInstr}
use Rattle.pra_base.specs.declared.code.VProc.{VProc}
use Rattle.pra_base.specs.Places.{number, allows}
use Rattle.net_cost.specs.declared.event.Event.{Event}
use Rattle.net_form.specs.declared.net.Strand.{Strand}
use Rattle.net_form.specs.declared.net.Extra.{Extra}
use Rattle.net_form.specs.Network.{event_at, extra_at, extra_of, priced_places}
use Rattle.net_form.specs.Tables.{all_tables}

-- at a layer, with the mask there
abbrev pub layer_extras : VProc → ℕ → Strand → ℕ × ℕ → List Extra
layer_extras code s t at = filter_map (extra_at all_tables code s t at) priced_places

-- what the event costs, where the place is in the mask
abbrev pub allowed_extra : ℕ → ℕ → ℕ → Place → Option Event → Option Extra
allowed_extra s l mask place event =
    if allows mask (number place) then extra_of s l place event else None

-- of an operand of the instruction
abbrev pub operand_extras : VProc → ℕ → ℕ → ℕ → ℕ → VInstr → List Extra
operand_extras code s v l mask i =
    filter_map (λ place. allowed_extra s l mask place (event_at all_tables code v i place))
    priced_places

-- of a strand, with its number
abbrev pub strand_extras : VProc → ℕ × Strand → List Extra
strand_extras code s =
    flat_map (layer_extras code s.0 s.1) (enumerate_from s.1.first s.1.masks)
