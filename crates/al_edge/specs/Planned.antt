-- What holds while tie groups are given their places.
use Rattle.std.specs.Prelude.{◌≡◌, ℕ, ◌<◌, ℤ, true, List, length, slice_get, Some}
use Rattle.pra_base.specs.declared.ids.Place.{Place}
use Rattle.net_cost.specs.declared.weights.Weights.{Weights}
use Rattle.net_form.specs.declared.net.Net.{Net}
use Rattle.net_form.specs.declared.prices.Prices.{Prices}
use Rattle.net_form.specs.declared.routes.Plan.{Plan}
use Rattle.net_form.specs.declared.taken.Taken.{Taken}
use Rattle.net_form.specs.Rooms.{IsRoomOf}
use Rattle.al_laws.specs.Greedy.{IsOpen, has_end, Outranks}
use Rattle.al_edge.specs.OpenPlaces.{AreMarked}
use Rattle.al_edge.specs.Weighed.{IsCostAt, group_sum}

-- group g is where it costs least, among the places that the groups before it leave open
pub record IsChosen (net : Net) (w : Weights) (prices : Prices) (plan : Plan) (g : ℕ) (p : Place)
    : Type 0 where
  pub least : Place → ℕ → ℤ
  pub costs : (q : Place) (s : ℕ) → IsOpen net plan g q → s < length net.strands →
      has_end net g s ≡ true → IsCostAt net w prices g q s (least q s)
  pub opened : IsOpen net plan g p
  pub first : (q : Place) → IsOpen net plan g q → Outranks (λ q. group_sum net g (least q)) p q

-- so many groups have their places, and the registers of these are marked
pub record ArePlanned (net : Net) (w : Weights) (prices : Prices) (used : Taken) (g : ℕ)
    (places : List Place) : Type 0 where
  pub room : IsRoomOf net used
  pub many : length places ≡ g
  pub marked : AreMarked net places used.regs
  pub chosen : (h : ℕ) (p : Place) → slice_get places h ≡ Some p →
      IsChosen net w prices (record { places = places }) h p
