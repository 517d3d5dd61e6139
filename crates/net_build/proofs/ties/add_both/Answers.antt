use Rattle.std.proofs.Common.{◌≡◌, length, arith}
use Rattle.net_build.specs.Order.{tie_to}
use Rattle.net_build.proofs.Ranges.{made_of_same, made_of_both}
use Rattle.net_build.proofs.ties.add_both.Goals as goal

pub returns-then-one-other : goal.returns-then-one-other
returns-then-one-other c =
    let one = c.min.ensures in
    let same = c.if-one-other.true in
    let least : c.min.result ≡ c.args.one = omega (arith, one, same) in
    made_of_same (tie_to c.args.strands.now c.args.end.now c.args.var c.args.number)
    (length c.args.strands.now) c.args.one c.args.other c.requires c.args.out.now _ _ least same
    c.in_ok-add_tie.ensures

pub returns : goal.returns
returns c =
    made_of_both (tie_to c.args.strands.now c.args.end.now c.args.var c.args.number)
    (length c.args.strands.now) c.args.one c.args.other c.requires c.args.out.now _ _ _ _
    c.min.ensures c.max.ensures c.if-one-other.false c.in_ok-add_tie.ensures
    c.in_ok-add_tie-2.ensures
