-- Placed code that was made of selected code and admitted routes of its network.
use Rattle.std.specs.Prelude.{◌≡◌, ℕ, List, length, slice_get, Some}
use Rattle.pra_base.specs.declared.code.VProc.{VProc}
use Rattle.pra_base.specs.Valid.{AreValid, IsSized}
use Rattle.net_form.specs.declared.net.Net.{Net}
use Rattle.net_form.specs.declared.routes.Routes.{Routes}
use Rattle.net_form.specs.Network.{IsNet}
use Rattle.net_form.specs.Flow.{flow, AreRoutes}
use Rattle.net_form.specs.Admitted.{IsAdmitted}
use Rattle.pl_place.specs.declared.placed.LProc.{LProc}
use Rattle.pl_place.specs.Behind.{Routed, IsBehind}
use Rattle.pl_place.specs.Valid.{ArePlaced}

abbrev pub routed : VProc → Net → Routes → Routed
routed code net routes = record { code = code; net = net; flow = flow net routes }

-- The code and the flow of admitted routes of its network stand behind the placed code.
pub record IsRouted (code : VProc) (p : LProc) : Type 0 where
  pub net : Net
  pub routes : Routes
  pub is_net : IsNet net code
  pub are_routes : AreRoutes net routes
  pub admitted : IsAdmitted net (flow net routes)
  pub behind : IsBehind (routed code net routes) p

-- The procedures of a module together: the code is valid and sized, the placed code is valid.
pub record AreRouted (codes : List VProc) (procs : List LProc) : Type 0 where
  pub valid : AreValid codes
  pub placed : ArePlaced procs
  pub count : length procs ≡ length codes
  pub sized : (n : ℕ) (code : VProc) → slice_get codes n ≡ Some code → IsSized code
  pub each : (n : ℕ) (code : VProc) (p : LProc) →
      slice_get codes n ≡ Some code → slice_get procs n ≡ Some p → IsRouted code p
