use Rattle.std.proofs.Common.{arith}
use Rattle.vc_order.proofs.Orders as orders
use Rattle.vc_order.proofs.order.place_of.Goals as goal

pub returns-clause-is : goal.returns-clause-is
returns-clause-is c = orders.read c.args.order.now.to.items c.args.b c.index.result.now
    c.requires.there c.index.ensures

pub returns-clause-within : goal.returns-clause-within
returns-clause-within c =
    let at = orders.read c.args.order.now.to.items c.args.b c.index.result.now c.requires.there
    c.index.ensures in
    omega (arith, at, (c.requires.is.there c.args.b c.requires.there).0)
