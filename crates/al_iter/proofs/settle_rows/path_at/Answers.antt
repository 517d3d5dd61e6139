use Rattle.std.proofs.Common.{length, arith, ap}
use Rattle.net_dual.proofs.Strands.{each_long}
use Rattle.al_iter.proofs.SettleRows.{in_places}
use Rattle.al_iter.proofs.settle_rows.path_at.Goals as goal

pub at-requires : goal.at-requires
at-requires c = in_places c.args._net.now c.args.routes.now c.requires.routes c.args.strand
    c.requires.strand

pub returns-clause-long : goal.returns-clause-long
returns-clause-long c =
    let long = each_long c.args._net.now c.args.routes.now c.requires.routes c.args.strand
    c.requires.strand in
    let same = ap length c.at.ensures in
    omega (arith, long, same)
