-- The numbers of ties one by one, as they stand in a list: thirteen for each tie.
use Rattle.std.specs.Prelude.{ℕ, ◌/◌, ◌%◌, ℤ, List, count_by, slice_index_or, if◌then◌else◌}
use Rattle.pra_base.specs.declared.ids.Place.{Place}
use Rattle.pra_base.specs.declared.ids.Place.TheVariants.{Eax}
use Rattle.net_form.specs.declared.net.Net.{Net}
use Rattle.net_form.specs.Flow.{Edge, same_place}
use Rattle.net_form.specs.Admitted.{tie_at, exits_at, enters_at}
use Rattle.net_form.specs.Rooms.{tie_numbers}
use Rattle.net_dual.specs.Step.{tied_price, tied_places}

abbrev pub slot_place : ℕ → Place
slot_place j = slice_index_or tied_places j Eax

-- what number k becomes
abbrev pub next_number : Net → List Edge → ℕ → ℕ → ℤ → ℤ
next_number net f s k old =
    let tie = tie_at net (k / tie_numbers) in
    let place = slot_place (k % tie_numbers) in
    tied_price s old (count_by (exits_at net tie place) f) (count_by (enters_at net tie place) f)

-- what a number becomes where the family leaves at one place and enters at another one
abbrev pub moved_number : ℕ → Place → Place → ℕ → ℤ → ℤ
moved_number s left entered slot old =
    tied_price s old (if same_place left (slot_place slot) then 1 else 0)
    (if same_place entered (slot_place slot) then 1 else 0)
