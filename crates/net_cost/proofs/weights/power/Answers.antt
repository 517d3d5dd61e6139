use Rattle.std.proofs.Common.{◌≡◌, arith}
use Rattle.net_cost.proofs.Powers.{power-one, power-eight}
use Rattle.net_cost.proofs.weights.power.Goals as goal

pub returns-then-factor-eq1-clause-power : goal.returns-then-factor-eq1-clause-power
returns-then-factor-eq1-clause-power c =
    rw c.if-factor-eq1.true (power-one c.args.depth c.requires.depth)

pub returns-else-factor-eq1-clause-power : goal.returns-else-factor-eq1-clause-power
returns-else-factor-eq1-clause-power c =
    let eight : c.args.factor ≡ 8 = grind (arith, c.requires.factor, c.if-factor-eq1.false) in
    rw eight (power-eight c.args.depth c.requires.depth)
