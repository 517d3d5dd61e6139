use Rattle.std.proofs.Common.{None}
use Rattle.net_cost.specs.Models.{weights_of}
use Rattle.net_plain.proofs.LeastRests.{rest_more}
use Rattle.net_plain.proofs.steps.least_at.Goals as goal

pub returns : goal.returns
returns g c =
    let row = c.row_of-row.ensures in
    rest_more c.args.net.now (weights_of c.args.model.now) c.args.prices.now c.args.ends
    c.args.taken.now c.args.spot.strand c.args.spot.layer None c.args.rests.now c.row_of-row.result
    c.requires.spot.before c.requires.rests.each row.each c.least_from.result
    c.least_from.ensures
