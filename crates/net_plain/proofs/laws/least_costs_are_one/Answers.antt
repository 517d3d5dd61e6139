use Rattle.std.proofs.Common.{arith}
use Rattle.std.proofs.lemmas.Int.{ints}
use Rattle.net_plain.proofs.laws.least_costs_are_one.Goals as goal

pub returns : goal.returns
returns c = λ net w prices ends taken s ps z least cost.
    let no_more = least.least cost.way cost.is_least.goes in
    let no_less = cost.is_least.least ps least.goes in
    omega (arith, ints)
