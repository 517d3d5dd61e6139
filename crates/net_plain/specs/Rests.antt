-- What is left of a path from a layer on, up to the strand's last layer.
use Rattle.std.specs.Prelude.{◌≡◌, ℕ, ◌+◌, ◌-◌, ◌^◌, nat_eq, if◌then◌else◌, ℤ, ◌≤ℤ◌, List, length}
use Rattle.std.specs.Prelude.{slice_index_or, Option, Some, None, All, IsTrue}
use Rattle.pra_base.specs.declared.ids.Place.{Place}
use Rattle.pra_base.specs.declared.ids.Place.TheVariants.{Eax}
use Rattle.pra_base.specs.Places.{number, place_count}
use Rattle.net_cost.specs.declared.weights.Weights.{Weights}
use Rattle.net_form.specs.declared.net.Net.{Net}
use Rattle.net_form.specs.declared.prices.Prices.{Prices}
use Rattle.net_form.specs.declared.routes.Ends.{Ends}
use Rattle.net_form.specs.declared.taken.Taken.{Taken}
use Rattle.net_form.specs.Admitted.{strand_at, stays_across}
use Rattle.net_form.specs.Flow.{Edge, edges}
use Rattle.net_dual.specs.Priced.{total, edge_price}
use Rattle.net_dual.specs.Leasts.{cost_at}
use Rattle.net_path.specs.Grounds.{is_free, is_open}
use Rattle.net_plain.specs.Rows.{AreCostsWithin}

-- an edge that a path of strand s may take
abbrev pub MayTake : Net → Ends → Taken → ℕ → Edge → Type 0
MayTake net ends taken s e =
    IsTrue (is_open net ends (is_free net taken) s e) × IsTrue (stays_across e)

-- the strand may go from a place before layer l through these places
abbrev pub Passes : Net → Ends → Taken → ℕ → ℕ → Option Place → List Place → Type 0
Passes net ends taken s l p qs = All (MayTake net ends taken s) (edges s l p qs)

-- and pays this
abbrev pub rest_price : Net → Weights → Prices → ℕ → ℕ → Option Place → List Place → ℤ
rest_price net w prices s l p qs = total (edge_price net w prices) (edges s l p qs)

-- these places are for the layers from l to the last
abbrev pub GoToEnd : Net → ℕ → ℕ → List Place → Type 0
GoToEnd net s l qs = l + length qs ≡ (strand_at net s).last + 1

-- what these places cost, if the strand may go through them
abbrev pub IsCostOf : Net → Weights → Prices → Ends → Taken → ℕ → ℕ → Option Place → List Place →
    Option ℤ → Type 0
IsCostOf net w prices ends taken s l p qs None = Passes net ends taken s l p qs → ⊥
IsCostOf net w prices ends taken s l p qs (Some z) =
    Passes net ends taken s l p qs × (z ≡ rest_price net w prices s l p qs)

-- z is what the places from layer l on cost at least
pub record IsLeastRest (net : Net) (w : Weights) (prices : Prices) (ends : Ends) (taken : Taken)
    (s l : ℕ) (p : Option Place) (z : ℤ) : Type 0 where
  pub way : List Place
  pub long : GoToEnd net s l way
  pub passes : Passes net ends taken s l p way
  pub is : z ≡ rest_price net w prices s l p way
  pub least : (qs : List Place) → GoToEnd net s l qs → Passes net ends taken s l p qs →
      z ≤ℤ rest_price net w prices s l p qs

-- the same, if there are any
abbrev pub IsRest
    : Net → Weights → Prices → Ends → Taken → ℕ → ℕ → Option Place → Option ℤ → Type 0
IsRest net w prices ends taken s l p None =
    (qs : List Place) → GoToEnd net s l qs → Passes net ends taken s l p qs → ⊥
IsRest net w prices ends taken s l p (Some z) = IsLeastRest net w prices ends taken s l p z

-- for each place before layer l
pub record AreRests (net : Net) (w : Weights) (prices : Prices) (ends : Ends) (taken : Taken)
    (s l : ℕ) (rests : List (Option ℤ)) : Type 0 where
  pub long : length rests ≡ place_count
  pub each : (p : Place) →
      IsRest net w prices ends taken s l (Some p) (cost_at rests (number p))
  pub within : AreCostsWithin (2 ^ 68) rests

-- the place before one of a path, if it is not the first
abbrev pub place_before : List Place → ℕ → Option Place
place_before path k = if nat_eq k 0 then None else Some (slice_index_or path (k - 1) Eax)
