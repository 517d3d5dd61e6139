-- Placed code as `place` answers it, and that of a module.
use Rattle.std.specs.Prelude.{◌≡◌, ℕ, List, length, slice_get, Option, Some, None}
use Rattle.std.specs.List.{flat_map, filter_map}
use Rattle.pra_base.specs.declared.code.VProc.{VProc}
use Rattle.pra_base.specs.Valid.{AreValid, IsSized}
use Rattle.net_form.specs.declared.net.Net.{Net}
use Rattle.net_form.specs.declared.routes.Routes.{Routes}
use Rattle.net_form.specs.Network.{IsNet}
use Rattle.net_form.specs.Flow.{flow, AreRoutes}
use Rattle.net_form.specs.Admitted.{IsAdmitted}
use Rattle.pl_made.specs.Made.{IsMade}
use Rattle.pl_moves.specs.declared.transfer.Move.{Move}
use Rattle.pl_place.specs.declared.placed.LInstr.{LInstr}
use Rattle.pl_place.specs.declared.placed.LInstr.TheVariants as placed
use Rattle.pl_place.specs.declared.placed.LProc.{LProc}
use Rattle.pl_routed.specs.Routed.{routed}

-- It was made of the code and admitted routes of its network.
pub record IsPlacement (code : VProc) (p : LProc) : Type 0 where
  pub net : Net
  pub routes : Routes
  pub is_net : IsNet net code
  pub are_routes : AreRoutes net routes
  pub admitted : IsAdmitted net (flow net routes)
  pub made : IsMade (routed code net routes) p

-- The procedures of a module together: the code is valid and sized.
pub record ArePlacements (codes : List VProc) (procs : List LProc) : Type 0 where
  pub valid : AreValid codes
  pub count : length procs ≡ length codes
  pub sized : (n : ℕ) (code : VProc) → slice_get codes n ≡ Some code → IsSized code
  pub each : (n : ℕ) (code : VProc) (p : LProc) →
      slice_get codes n ≡ Some code → slice_get procs n ≡ Some p → IsPlacement code p

-- ---- all moves of a procedure

abbrev pub move_of : LInstr → Option Move
move_of (placed.Move m) = Some m
move_of (placed.Op i places) = None

abbrev pub moves_of : LProc → List Move
moves_of p = flat_map (λ block. filter_map move_of block.code) p.blocks
