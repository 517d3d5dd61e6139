-- What is paid at a layer of a strand.
use Rattle.std.specs.Prelude.{◌≡◌, ◌≢◌, ◌⊎◌, ℕ, ◌*◌, ◌^◌, ◌<◌, ◌≤◌, Bool, ℤ, pos, ◌+ℤ◌, List}
use Rattle.std.specs.Prelude.{length, None, if◌then◌else◌, slice_index}
use Rattle.pra_base.specs.declared.ids.Place.{Place}
use Rattle.pra_base.specs.Places.{number, allows, has_register, register_of}
use Rattle.net_cost.specs.declared.weights.Weights.{Weights}
use Rattle.net_form.specs.declared.net.Net.{Net}
use Rattle.net_form.specs.declared.prices.Prices.{Prices}
use Rattle.net_form.specs.declared.routes.Ends.{Ends}
use Rattle.net_form.specs.declared.taken.Taken.{Taken}
use Rattle.net_form.specs.Admitted.{strand_at}
use Rattle.net_form.specs.Cost.{extras_cost}
use Rattle.net_form.specs.Flow.{Edge}
use Rattle.net_form.specs.Ordered.{first_extra}
use Rattle.net_dual.specs.Priced.{price_unit, cap_part}
use Rattle.net_path.specs.declared.cells.Spot.{Spot}
use Rattle.net_path.specs.declared.crossbar.Row.{Row}
use Rattle.net_path.specs.Grounds.{edge, layer, is_open, register_free}
use Rattle.net_path.specs.Rests.{unreached}
use Rattle.net_path.specs.Rows.{IsCell, IsAbout, costs_at}
use Rattle.net_path.specs.Ways.{at}

-- a layer of a strand, and where its extras begin
pub record IsSpot (net : Net) (spot : Spot) : Type 0 where
  pub strand : spot.strand < length net.strands
  pub after : (strand_at net spot.strand).first ≤ spot.layer
  pub before : spot.layer ≤ (strand_at net spot.strand).last
  pub extra : spot.extra ≡ first_extra net spot.strand spot.layer

abbrev pub spot_edge : Spot → Place → Edge
spot_edge spot place = edge spot.strand spot.layer None place

-- what is paid for extras and for the register
abbrev pub alone_price : Net → Weights → Prices → Edge → ℤ
alone_price net w prices e =
    pos (price_unit * extras_cost net w e.strand e.layer e.to) +ℤ cap_part net prices e

abbrev pub is_open_alone : Net → Ends → Taken → Edge → Bool
is_open_alone net ends taken e = is_open net ends (register_free net taken) e.strand e

-- the price of the register of place p, where these are the prices of the six
abbrev pub price_in : List ℕ → ℕ → ℤ
price_in caps p = if has_register p then pos (slice_index caps (register_of p)) else pos 0

-- what the extras of the layer cost at a place, in units of 1/1024
abbrev pub spot_extras : Net → Weights → Spot → Place → ℤ
spot_extras net w spot place = pos (price_unit * extras_cost net w spot.strand spot.layer place)

-- what is paid at a place of a layer, where these places are open and extras cost so much
pub record IsCellWith (open_places : ℕ) (caps : List ℕ) (extras : ℤ) (place : Place) (z : ℤ)
    : Type 0 where
  pub is : IsCell (allows open_places (number place)) (extras +ℤ price_in caps (number place)) z
  pub within : (z ≡ unreached) ⊎ IsAbout (2 ^ 43) z

abbrev pub AreCellsWith : ℕ → List ℕ → (Place → ℤ) → List ℤ → Type 0
AreCellsWith open_places caps extras costs =
    (place : Place) →
    IsCellWith open_places caps (extras place) place (at costs (number place))

-- the price of the place of number p, where these places are open
pub record IsPriceIf (open_places p : ℕ) (price z : ℤ) : Type 0 where
  pub is : IsCell (allows open_places p) price z
  pub within : (z ≡ unreached) ⊎ IsAbout (2 ^ 43) z

-- it is put into a row, at that place alone
pub record IsPriceAt (open_places p : ℕ) (price : ℤ) (old new : List ℤ) : Type 0 where
  pub others : (q : ℕ) → q ≢ p → at new q ≡ at old q
  pub here : IsPriceIf open_places p price (at new p)

pub record IsPlainCell (net : Net) (w : Weights) (prices : Prices) (ends : Ends) (taken : Taken)
    (spot : Spot) (place : Place) (z : ℤ) : Type 0 where
  pub is : IsCell (is_open_alone net ends taken (spot_edge spot place))
      (alone_price net w prices (spot_edge spot place)) z
  pub within : (z ≡ unreached) ⊎ IsAbout (2 ^ 43) z

abbrev pub ArePlainCells : Net → Weights → Prices → Ends → Taken → Spot → List ℤ → Type 0
ArePlainCells net w prices ends taken spot costs =
    (place : Place) → IsPlainCell net w prices ends taken spot place (at costs (number place))

abbrev pub layer_spot : Net → ℕ → ℕ → Spot
layer_spot net s k =
    record { strand = s; layer = layer net s k; extra = first_extra net s (layer net s k) }

-- the first n rows
abbrev pub ArePlainRows : Net → Weights → Prices → Ends → Taken → ℕ → ℕ → List Row → Type 0
ArePlainRows net w prices ends taken s n rows =
    (k : ℕ) → k < n →
    ArePlainCells net w prices ends taken (layer_spot net s k) (costs_at rows k)
