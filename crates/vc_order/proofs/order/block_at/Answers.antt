use Rattle.std.proofs.Common.{arith}
use Rattle.vc_order.proofs.Orders as orders
use Rattle.vc_order.proofs.order.block_at.Goals as goal

pub returns-clause-is : goal.returns-clause-is
returns-clause-is c =
    let long = c.requires.is.blocks in
    orders.read c.args.order.now.from.items c.args.c c.index.result.now
    (omega (arith, c.requires.there, long)) c.index.ensures

pub returns-clause-within : goal.returns-clause-within
returns-clause-within c =
    let long = c.requires.is.blocks in
    let at = orders.read c.args.order.now.from.items c.args.c c.index.result.now
    (omega (arith, c.requires.there, long)) c.index.ensures in
    omega (arith, at, (c.requires.is.back c.args.c c.requires.there).0)
