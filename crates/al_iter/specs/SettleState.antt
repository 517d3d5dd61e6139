-- What stays true of routes and their room while one path after the other changes.
use Rattle.std.specs.Prelude.{◌≡◌, ℕ, ◌<◌, Bool, nat_eq, List, length, All}
use Rattle.std.specs.List.{list_any, AllPairs}
use Rattle.net_form.specs.declared.net.Net.{Net}
use Rattle.net_form.specs.declared.routes.Routes.{Routes}
use Rattle.net_form.specs.declared.taken.Spare.{Spare}
use Rattle.net_form.specs.Admitted.{IsAdmitted}
use Rattle.net_form.specs.Flow.{flow, AreRoutes}
use Rattle.net_form.specs.InUse.{StandsFor}
use Rattle.al_laws.specs.Parts.{rest, of_variable}
use Rattle.al_iter.specs.Room.{IsSpareOf}

-- admitted routes, all that they use marked
pub record AreMarkedRoutes (net : Net) (spare : Spare) (routes : Routes) : Type 0 where
  pub room : IsSpareOf net spare
  pub are_routes : AreRoutes net routes
  pub admitted : IsAdmitted net (flow net routes)
  pub marked : StandsFor net spare.taken (flow net routes)

-- ---- the strands of a variable

-- strand s is one of these
abbrev pub among : List ℕ → ℕ → Bool
among strands s = list_any (nat_eq s) strands

-- strands of the network, by rising number
pub record AreStrands (net : Net) (strands : List ℕ) : Type 0 where
  pub there : All (λ s. s < length net.strands) strands
  pub rising : AllPairs (λ s r. s < r) strands

-- all strands of variable v
pub record AreStrandsOf (net : Net) (v : ℕ) (strands : List ℕ) : Type 0 where
  pub are : AreStrands net strands
  pub each : (s : ℕ) → s < length net.strands → of_variable net v s ≡ among strands s

-- all strands of one variable
pub record AreOfOne (net : Net) (strands : List ℕ) : Type 0 where
  pub variable : ℕ
  pub are : AreStrandsOf net variable strands

-- admitted routes, and marked is what all strands but these use
pub record IsAside (net : Net) (strands : List ℕ) (spare : Spare) (routes : Routes) : Type 0 where
  pub room : IsSpareOf net spare
  pub are_routes : AreRoutes net routes
  pub admitted : IsAdmitted net (flow net routes)
  pub marked : StandsFor net spare.taken (rest net (among strands) routes)
