-- What carries one code into an image: the placed code is valid and small.
use Rattle.std.proofs.Common.{◌≡◌, ℕ, [], ◌∷◌, length, arith}
use Rattle.std.proofs.lemmas.List.Sums.{sum_by-cons}
use Rattle.ia_carries.proofs.Few.{is_small, same_instructions}
use Rattle.ia_emit.specs.Counts.{instruction_count, AreFew}
use Rattle.ia_emit.specs.Operands.{IsSmall}
use Rattle.pl_build.specs.Placement.{IsPlacement}
use Rattle.pl_made.proofs.Parts.{behind_of}
use Rattle.pl_made.proofs.Whole.{is_placed}
use Rattle.pl_place.specs.declared.placed.LProc.{LProc}
use Rattle.pl_place.specs.Behind.{IsBehind}
use Rattle.pl_place.specs.Valid.{IsPlaced}
use Rattle.pra_follow.specs.Codes.{Carriage, IsCarriage, behind}

pub stands_behind : (c : Carriage) → IsCarriage c → IsBehind (behind c) c.placed
stands_behind c is = behind_of (behind c) c.placed is.placed

pub is_placement : (c : Carriage) → IsCarriage c → IsPlacement c.code c.placed
is_placement c is = record {
  net = c.net;
  routes = c.routes;
  is_net = is.routes.is_net;
  are_routes = is.routes.are_routes;
  admitted = is.routes.admitted;
  made = is.placed;
}

pub carriage_placed : (c : Carriage) → IsCarriage c → IsPlaced c.placed
carriage_placed c is = is_placed c.code c.net c.routes is.routes.is_net is.routes.are_routes
    is.routes.admitted is.valid is.sized c.placed is.placed

pub carriage_small : (c : Carriage) → IsCarriage c → IsSmall c.placed
carriage_small c is = is_small (behind c) c.placed (stands_behind c is) is.sized

pub carriage_few : (c : Carriage) → IsCarriage c → AreFew (c.placed ∷ [])
carriage_few c is =
    let same = same_instructions (behind c) c.placed (stands_behind c is) in
    let instructions = is.sized.instructions in
    let count : length c.placed.blocks ≡ length c.code.blocks = is.placed.count in
    let blocks = is.sized.blocks in
    let one = sum_by-cons instruction_count c.placed [] in
    let other = sum_by-cons (λ (p : LProc). length p.blocks) c.placed [] in
    record {
      instructions = omega (arith, same, instructions, one);
      blocks = omega (arith, count, blocks, other);
    }
