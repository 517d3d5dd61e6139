-- What a strand pays at a place of a layer, whichever way it comes there.
use Rattle.std.specs.Prelude.{◌≡◌, ℕ, ◌+◌, ◌*◌, ◌^◌, ◌<◌, ◌≤◌, Bool, ◌&&◌, ◌||◌, nat_eq, nat_lt}
use Rattle.std.specs.Prelude.{ℤ, pos, ◌+ℤ◌, ◌-ℤ◌, List, length, slice_index_or, Option, Some, None}
use Rattle.std.specs.List.{enumerate_from}
use Rattle.pra_base.specs.declared.ids.Place.{Place}
use Rattle.net_cost.specs.declared.weights.Weights.{Weights}
use Rattle.net_form.specs.declared.net.Net.{Net}
use Rattle.net_form.specs.declared.net.Tie.{Tie}
use Rattle.net_form.specs.declared.net.MemPair.{MemPair}
use Rattle.net_form.specs.declared.net.BlockEnd.{BlockEnd}
use Rattle.net_form.specs.declared.net.BlockEnd.TheVariants.{Entry, Exit}
use Rattle.net_form.specs.declared.prices.Prices.{Prices}
use Rattle.net_form.specs.Admitted.{strand_at}
use Rattle.net_form.specs.Cost.{way_cost, extras_cost}
use Rattle.net_form.specs.Flow.{Edge}
use Rattle.net_form.specs.Ordered.{first_extra}
use Rattle.net_form.specs.Rooms.{tie_numbers}
use Rattle.net_form.specs.Tables.{all_tables}
use Rattle.net_dual.specs.Priced.{total, pay, price_unit, cap_part, mem_part, exit_part}
use Rattle.net_dual.specs.Priced.{entry_part, number_at_slot, tie_slot, mem_price, AreInRange}
use Rattle.net_dual.specs.Small.{IsWithin}
use Rattle.cert_check.specs.declared.tolls.Spot.{Spot}
use Rattle.cert_check.specs.declared.tolls.Tolls.{Tolls}

abbrev pub edge : ℕ → ℕ → Option Place → Place → Edge
edge s l from to = record { strand = s; layer = l; from = from; to = to }

-- the price of an edge but for its way
abbrev pub toll : Net → Weights → Prices → ℕ → ℕ → Place → ℤ
toll net w prices s l to =
    let e = edge s l None to in
    (pos (price_unit * extras_cost net w s l to) +ℤ
    (cap_part net prices e +ℤ mem_part net prices e)) +ℤ
    (exit_part net prices e -ℤ entry_part net prices e)

-- and its way
abbrev pub way_toll : Net → Weights → ℕ → ℕ → Option Place → Place → ℤ
way_toll net w s l from to =
    pos (price_unit * way_cost all_tables net w (edge s l from to))

-- ---- ties

-- the strand that has this end of a tie: a tie goes from an exit to an entry
abbrev pub tied_strand : BlockEnd → Tie → ℕ
tied_strand Entry t = t.to
tied_strand Exit t = t.from

-- the sum of number j of all ties that strand s has this end of
abbrev pub ties_sum : List Tie → Prices → BlockEnd → ℕ → ℕ → ℤ
ties_sum ties prices end s j =
    total (λ t. pay (nat_eq (tied_strand end t.1) s) (number_at_slot prices.ties t.0 (Some j)))
    (enumerate_from 0 ties)

-- a list of these sums, thirteen for each strand
pub record AreTiesSums (net : Net) (prices : Prices) (end : BlockEnd) (sums : List ℤ) : Type 0 where
  pub count : length sums ≡ tie_numbers * length net.strands
  pub within : (k : ℕ) → IsWithin (2 ^ 105) (slice_index_or sums k (pos 0))
  pub each : (s j : ℕ) → s < length net.strands → j < tie_numbers →
      slice_index_or sums (tie_numbers * s + j) (pos 0) ≡ ties_sum net.ties prices end s j

abbrev pub slot_sum : List Tie → Prices → BlockEnd → ℕ → Option ℕ → ℤ
slot_sum ties prices end s None = pos 0
slot_sum ties prices end s (Some j) = ties_sum ties prices end s j

-- the same for a place
abbrev pub place_sum : List Tie → Prices → BlockEnd → ℕ → Place → ℤ
place_sum ties prices end s to = slot_sum ties prices end s (tie_slot to)

-- ---- the room in which they are summed up

-- each within so many greatest prices
abbrev pub AreSumsWithin : ℕ → List ℤ → Type 0
AreSumsWithin n sums = (k : ℕ) → IsWithin (2 ^ 40 * n) (slice_index_or sums k (pos 0))

abbrev pub AreNumbersWithin : List ℤ → Type 0
AreNumbersWithin numbers = (k : ℕ) → IsWithin (2 ^ 40) (slice_index_or numbers k (pos 0))

-- the first n numbers of a tie are added to those of a strand
abbrev pub HasAdded : List ℤ → List ℤ → ℕ → ℕ → ℕ → List ℤ → Type 0
HasAdded old numbers strand tie n new =
    (s j : ℕ) → j < tie_numbers →
    slice_index_or new (tie_numbers * s + j) (pos 0) ≡
    slice_index_or old (tie_numbers * s + j) (pos 0) +ℤ
    pay (nat_eq strand s && nat_lt j n) (slice_index_or numbers (tie_numbers * tie + j) (pos 0))

-- ---- what is at hand

-- the strand has an end of the pair at the layer
abbrev pub is_end : ℕ → ℕ → MemPair → Bool
is_end s l m =
    (nat_eq s m.left && nat_eq l m.left_layer) || (nat_eq s m.right && nat_eq l m.right_layer)

-- the prices of the pairs of which the strand has an end there
abbrev pub mems_sum : List MemPair → Prices → ℕ → ℕ → ℤ
mems_sum pairs prices s l =
    total (λ m. pay (is_end s l m.1) (pos (mem_price prices m.0))) (enumerate_from 0 pairs)

pub record AreTolls (net : Net) (tolls : Tolls) : Type 0 where
  pub prices : AreInRange net tolls.prices
  pub exits : AreTiesSums net tolls.prices Exit tolls.exits
  pub entries : AreTiesSums net tolls.prices Entry tolls.entries

-- one of the layers of a strand
pub record IsSpot (net : Net) (spot : Spot) : Type 0 where
  pub strand : spot.strand < length net.strands
  pub after : (strand_at net spot.strand).first ≤ spot.layer
  pub before : spot.layer ≤ (strand_at net spot.strand).last
  pub extra : spot.extra ≡ first_extra net spot.strand spot.layer
