use Rattle.std.proofs.Common.{ℕ, ◌≡◌, ◌+◌, ◌*◌, ◌<◌, true, List, length, get_or, sym, ap, subst}
use Rattle.std.proofs.Common.{◌∙◌, arith}
use Rattle.std.proofs.lemmas.List.{get_or_read}
use Rattle.pra_base.specs.declared.code.Block.{Block}
use Rattle.pra_base.specs.declared.code.VProc.{VProc}
use Rattle.pra_base.specs.Code.{no_block}
use Rattle.pra_base.specs.Valid.{IsSized}
use Rattle.net_form.specs.declared.net.Net.{Net}
use Rattle.net_form.specs.declared.routes.Routes.{Routes}
use Rattle.net_form.specs.Admitted.{IsAdmitted}
use Rattle.net_form.specs.Flow.{flow, AreRoutes}
use Rattle.net_form.specs.Index.{first_layer}
use Rattle.net_form.specs.Network.{IsNet}
use Rattle.pl_moves.specs.declared.transfer.Pair.{Pair}
use Rattle.pl_moves.specs.Assignment.{can_move}
use Rattle.pl_made.specs.Made.{LaysMoves}
use Rattle.pl_routed.specs.Routed.{routed}
use Rattle.pl_build.specs.Laid.{AreLayers}
use Rattle.pl_build.specs.Layers.{layer}
use Rattle.pl_build.proofs.Layered.{layers_long, layers_at, blocks_many}
use Rattle.pl_build.proofs.Blocks.{is_formed, within, movable, are_layers, block_more}
use Rattle.pl_build.proofs.placing.place_blocks.Goals as goal

module _ (code : VProc) (net : Net) (routes : Routes) (is : IsNet net code)
    (has : AreRoutes net routes) (admitted : IsAdmitted net (flow net routes))
    (sized : IsSized code) (b : ℕ) (b_in : b < length code.blocks) where
  many : length net.blocks ≡ length code.blocks
  many = blocks_many code net routes is (is_formed code net routes is has admitted sized) has
      admitted

  long : length net.index.layers ≡ length net.blocks + 1
  long = layers_long net (is_formed code net routes is has admitted sized)

  pub in_index : b < length net.index.layers
  in_index = let m = many in let l = long in omega (arith, m, l, b_in)

  pub begins : (first : ℕ) → first ≡ get_or net.index.layers b first →
      first ≡ first_layer net.blocks b
  begins first read =
      let m = many in
      get_or_read net.index.layers b first in_index read 0
      ∙ layers_at net (is_formed code net routes is has admitted sized) b
      (omega (arith, m, b_in))

pub layers_of-requires-clause-net : goal.layers_of-requires-clause-net
layers_of-requires-clause-net c = is_formed c.args.code.now c.args.net.now c.args.routes.now
    c.requires.net c.requires.routes c.requires.admitted c.requires.sized

pub index-requires : goal.index-requires
index-requires c =
    let lt = c.loop-b-test.true in
    let all = c.len-b-end.ensures in
    in_index c.args.code.now c.args.net.now c.args.routes.now c.requires.net c.requires.routes
    c.requires.admitted c.requires.sized c.loop-b.b (omega (arith, lt, all))

pub place_block-requires-clause-within : goal.place_block-requires-clause-within
place_block-requires-clause-within c =
    let code = c.args.code.now in
    let net = c.args.net.now in
    let b = c.loop-b.b in
    let lt = c.loop-b-test.true in
    let all = c.len-b-end.ensures in
    let b_in : b < length code.blocks = omega (arith, lt, all) in
    let first = c.index.result.now in
    let block = get_or_read code.blocks b c.index-in-loop-b.result.now b_in
    c.index-in-loop-b.ensures no_block in
    let same = ap (λ (x : Block). length x.code) block in
    let start = begins code net c.args.routes.now c.requires.net c.requires.routes
    c.requires.admitted c.requires.sized b b_in first c.index.ensures in
    let room = within code net c.args.routes.now c.requires.net c.requires.routes
    c.requires.admitted c.requires.sized c.in_ok-layers.layers.items c.in_ok-layers.ensures.long
    c.in_ok-layers.ensures.pairs b first b_in start in
    let deref = ap length c.deref.ensures.value in
    omega (arith, same, room, deref)

pub place_block-requires-clause-movable : goal.place_block-requires-clause-movable
place_block-requires-clause-movable c =
    let code = c.args.code.now in
    let net = c.args.net.now in
    let b = c.loop-b.b in
    let lt = c.loop-b-test.true in
    let all = c.len-b-end.ensures in
    let b_in : b < length code.blocks = omega (arith, lt, all) in
    let first = c.index.result.now in
    let block = get_or_read code.blocks b c.index-in-loop-b.result.now b_in
    c.index-in-loop-b.ensures no_block in
    let same = ap (λ (x : Block). length x.code) block in
    let start = begins code net c.args.routes.now c.requires.net c.requires.routes
    c.requires.admitted c.requires.sized b b_in first c.index.ensures in
    λ k le. subst (λ (ls : List (List Pair)). can_move (layer ls (first + 2 * k + 1)) ≡ true)
    (sym c.deref.ensures.value)
    (movable code net c.args.routes.now c.requires.net c.requires.routes c.requires.admitted
    c.requires.sized c.in_ok-layers.layers.items c.in_ok-layers.ensures.long
    c.in_ok-layers.ensures.pairs b first b_in start k (omega (arith, same, le)))

pub loop-b-preserved : goal.loop-b-preserved
loop-b-preserved c =
    let code = c.args.code.now in
    let net = c.args.net.now in
    let r = routed code net c.args.routes.now in
    let b = c.loop-b.b in
    let lt = c.loop-b-test.true in
    let all = c.len-b-end.ensures in
    let b_in : b < length code.blocks = omega (arith, lt, all) in
    let first = c.index.result.now in
    let placed = c.in_ok-place_block.field-0 in
    let block = get_or_read code.blocks b c.index-in-loop-b.result.now b_in
    c.index-in-loop-b.ensures no_block in
    let same = ap (λ (x : Block). x.code) block in
    let start = begins code net c.args.routes.now c.requires.net c.requires.routes
    c.requires.admitted c.requires.sized b b_in first c.index.ensures in
    let are = are_layers code net c.args.routes.now c.requires.net c.requires.routes
    c.requires.admitted c.requires.sized c.in_ok-layers.layers.items c.in_ok-layers.ensures.long
    c.in_ok-layers.ensures.pairs b first b_in start in
    let here : AreLayers r b c.index-in-loop-b.result.now.code first c.deref.result.now =
    subst (λ ls. AreLayers r b c.index-in-loop-b.result.now.code first ls)
    (sym c.deref.ensures.value)
    (subst (λ is. AreLayers r b is first c.in_ok-layers.layers.items) (sym same) are) in
    block_more r b c.loop-b.blocks c.push.new.self placed c.in_ok-push.ensures.ok
    (c.in_ok-place_block.ensures.end ∙ ap (λ (x : Block). x.end) block)
    (subst (λ is. LaysMoves r b 0 is placed.code) same (c.in_ok-place_block.ensures.lays r b here))
    c.loop-b.invariant
