-- What holds while strands are laid one after the other, and why it may end.
use Rattle.std.specs.Prelude.{◌≡◌, ℕ, ◌<◌, List, [], length, ⊤}
use Rattle.pra_base.specs.declared.ids.Place.{Place}
use Rattle.net_cost.specs.declared.weights.Weights.{Weights}
use Rattle.net_form.specs.declared.net.Net.{Net}
use Rattle.net_form.specs.declared.prices.Prices.{Prices}
use Rattle.net_form.specs.declared.routes.Plan.{Plan}
use Rattle.net_form.specs.declared.routes.Routes.{Routes}
use Rattle.net_form.specs.declared.taken.Taken.{Taken}
use Rattle.net_form.specs.InUse.{StandsFor}
use Rattle.net_form.specs.Rooms.{IsRoomOf, some_routes}
use Rattle.net_path.specs.Desk.{HasSizes}
use Rattle.al_laws.specs.Laid.{AreLaidBefore, IsBlocked, was_laid}
use Rattle.al_laws.specs.Parts.{part}
use Rattle.al_iter.specs.declared.laying.BlockedStrand.{BlockedStrand}
use Rattle.al_iter.specs.declared.laying.LayFault.{LayFault}
use Rattle.al_iter.specs.declared.laying.LayFault.TheVariants.{Blocked, OutOfMemory}
use Rattle.al_iter.specs.declared.laying.LayRoom.{LayRoom}

-- room for laying: some place for each layer of each strand, and nothing is taken
pub record IsLayRoom (net : Net) (room : LayRoom) : Type 0 where
  pub paths : room.paths ≡ (some_routes net).places
  pub taken : IsRoomOf net room.taken
  pub nothing : StandsFor net room.taken []

-- The first k strands of the order are laid, and what their paths use is taken, and no more. The
-- other strands have some place for each of their layers.
pub record IsLaidSoFar (net : Net) (w : Weights) (prices : Prices) (plan : Plan) (order : List ℕ)
    (k : ℕ) (routes : Routes) (taken : Taken) : Type 0 where
  pub sizes : HasSizes net routes
  pub laid : AreLaidBefore net w prices plan order k routes
  pub room : IsRoomOf net taken
  pub stands : StandsFor net taken (part net (was_laid order k) routes)

-- A strand of the network is blocked, and what is taken is of the network's size.
pub record IsBlockedStrand (net : Net) (w : Weights) (prices : Prices) (plan : Plan)
    (order : List ℕ) (s : ℕ) (taken : Taken) : Type 0 where
  pub strand : s < length net.strands
  pub blocked : IsBlocked net w prices plan order s taken
  pub room : IsRoomOf net taken

-- it is told with what is taken
abbrev pub IsBlockedWith : Net → Weights → Prices → Plan → List ℕ → BlockedStrand → Type 0
IsBlockedWith net w prices plan order told =
    IsBlockedStrand net w prices plan order told.strand told.taken

abbrev pub IsLayFault : Net → Weights → Prices → Plan → List ℕ → LayFault → Type 0
IsLayFault net w prices plan order (Blocked s taken) =
    IsBlockedStrand net w prices plan order s taken
IsLayFault net w prices plan order OutOfMemory = ⊤

-- paths as routes
abbrev pub routes_of : List (List Place) → Routes
routes_of paths = record { places = paths }
