-- The layers of a strand, and numbers for their places.
use Rattle.std.specs.Prelude.{◌≡◌, ℕ, ◌*◌, ◌^◌, ◌<◌, ◌≤◌, Bool, if◌then◌else◌, ℤ, pos, ◌+ℤ◌}
use Rattle.std.specs.Prelude.{List, length, Option, None, option_map}
use Rattle.pra_base.specs.declared.ids.Place.{Place}
use Rattle.pra_base.specs.Places.{place_count, place_at}
use Rattle.net_cost.specs.declared.weights.Weights.{Weights}
use Rattle.net_form.specs.declared.net.Net.{Net}
use Rattle.net_form.specs.declared.prices.Prices.{Prices}
use Rattle.net_form.specs.declared.routes.Ends.{Ends}
use Rattle.net_form.specs.declared.taken.Taken.{Taken}
use Rattle.net_form.specs.Admitted.{strand_at, stays_across}
use Rattle.net_form.specs.Cost.{way_cost}
use Rattle.net_form.specs.Tables.{all_tables}
use Rattle.net_dual.specs.Leasts.{cost_at, IsCostWithin}
use Rattle.net_dual.specs.Priced.{price_unit}
use Rattle.net_path.specs.Grounds.{edge, is_free, is_open, there_price}
use Rattle.net_plain.specs.declared.open.Spot.{Spot}

-- one of the layers of a strand
pub record IsSpot (net : Net) (spot : Spot) : Type 0 where
  pub strand : spot.strand < length net.strands
  pub after : (strand_at net spot.strand).first ≤ spot.layer
  pub before : spot.layer ≤ (strand_at net spot.strand).last

-- ---- numbers that may be there

-- z is added where the test holds, else nothing is left
abbrev pub plus_if : Bool → ℤ → Option ℤ → Option ℤ
plus_if b z o = if b then option_map (λ d. d +ℤ z) o else None

abbrev pub AreCostsWithin : ℕ → List (Option ℤ) → Type 0
AreCostsWithin n row = (k : ℕ) → IsCostWithin n (cost_at row k)

-- ---- a layer

-- with what is paid at a place, if a path may be there
abbrev pub there
    : Net → Weights → Prices → Ends → Taken → ℕ → ℕ → Place → Option ℤ → Option ℤ
there net w prices ends taken s l q left =
    plus_if (is_open net ends (is_free net taken) s (edge s l None q))
    (there_price net w prices (edge s l None q)) left

-- with the way to it, if a path may go this way
abbrev pub coming : Net → Weights → ℕ → ℕ → Option Place → Place → Option ℤ → Option ℤ
coming net w s l p q left =
    plus_if (stays_across (edge s l p q))
    (pos (price_unit * way_cost all_tables net w (edge s l p q))) left

-- for each place what is paid there and behind it
pub record IsRowOf (net : Net) (w : Weights) (prices : Prices) (ends : Ends) (taken : Taken)
    (s l : ℕ) (rests row : List (Option ℤ)) : Type 0 where
  pub long : length row ≡ place_count
  pub each : (k : ℕ) → k < place_count →
      cost_at row k ≡ there net w prices ends taken s l (place_at k) (cost_at rests k)
  pub within : AreCostsWithin (2 ^ 108) row
