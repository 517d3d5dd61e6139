use Rattle.std.proofs.Common.{arith, ap}
use Rattle.std.proofs.lemmas.Int.{ints}
use Rattle.net_cost.specs.Models.{weights_of}
use Rattle.net_form.specs.declared.prices.Prices.{Prices}
use Rattle.net_dual.specs.Paths.{path_price}
use Rattle.net_dual.specs.Priced.{edge_price}
use Rattle.al_iter.proofs.settle_strand.find_cheaper.Goals as goal

pub returns-clause-none : goal.returns-clause-none
returns-clause-none g c = λ _ ps goes.
    let net = c.args.net.now in
    let w = weights_of c.args.model.now in
    let s = c.args.strand in
    let le = c.in-Ok.ensures.found.least ps goes in
    let cost = c.in-Ok.ensures.cost in
    let free = ap (λ (prices : Prices). path_price net (edge_price net w prices) s ps)
    c.requires.spare.zero in
    omega (arith, ints, le, cost, free, c.if-cost-price.false)
