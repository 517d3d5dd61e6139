use Rattle.std.proofs.Common.{◌≡◌, ◌<◌, List, length, get_or, ap, ◌∙◌, arith}
use Rattle.std.proofs.lemmas.Int.{ints}
use Rattle.pra_base.specs.declared.ids.Place.{Place}
use Rattle.net_cost.specs.Models.{weights_of}
use Rattle.net_dual.specs.Paths.{path_in}
use Rattle.al_iter.specs.SettleSums.{free_price}
use Rattle.al_iter.proofs.SettleSums.{total_more}
use Rattle.al_iter.proofs.settle_strands.sum_now.Goals as goal

pub loop-at-preserved : goal.loop-at-preserved
loop-at-preserved g c =
    let net = c.args.net.now in
    let w = weights_of c.args.model.now in
    let strands = c.args.strands.now in
    let i = c.loop-at.at in
    let s = get_or strands i 0 in
    let lt : i < length strands = omega arith in
    let more = total_more (λ s. free_price net w s (path_in c.args.routes.now s)) strands i lt in
    let price : c.price_now.result ≡ free_price net w s (path_in c.args.routes.now s) =
    c.price_now.ensures.value
    ∙ ap (λ (ps : List Place). free_price net w s ps) c.path_at.ensures.path in
    let inv = c.loop-at.invariant in
    record {
      value = omega (
        arith,
        ints,
        more,
        price,
        inv.value,
        inv.least,
        inv.most,
        c.price_now.ensures.least,
        c.price_now.ensures.most,
      );
      least = omega (
        arith,
        ints,
        inv.least,
        inv.most,
        c.price_now.ensures.least,
        c.price_now.ensures.most,
      );
      most = omega (
        arith,
        ints,
        inv.least,
        inv.most,
        c.price_now.ensures.least,
        c.price_now.ensures.most,
      );
    }
