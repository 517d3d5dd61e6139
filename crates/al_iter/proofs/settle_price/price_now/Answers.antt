use Rattle.std.proofs.Common.{arith}
use Rattle.std.proofs.lemmas.Int.{ints}
use Rattle.net_cost.specs.Models.{weights_of}
use Rattle.net_dual.specs.Priced.{cost_by_weights}
use Rattle.net_dual.proofs.FreeBound.{free_path}
use Rattle.al_iter.proofs.settle_price.price_now.Goals as goal

pub returns-clause-value : goal.returns-clause-value
returns-clause-value g c =
    let net = c.args.net.now in
    let free = free_path net (cost_by_weights net (weights_of c.args.model.now)) c.args.strand
    c.args.path.now in
    omega (arith, ints, free, c.path_cost.ensures.value, c.path_cost.ensures.small)
