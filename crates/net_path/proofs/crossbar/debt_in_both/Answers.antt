use Rattle.std.proofs.Common.{◌≡◌, ◌+ℤ◌, arith}
use Rattle.std.proofs.lemmas.Int.{ints}
use Rattle.net_path.specs.Ways.{at}
use Rattle.net_path.proofs.Staying.{stays_in_both}
use Rattle.net_path.proofs.crossbar.debt_in_both.Goals as goal

pub with_way-left-requires-clause-debt : goal.with_way-left-requires-clause-debt
with_way-left-requires-clause-debt g c =
    let debt = c.requires.row c.args.r (omega (arith, c.requires.register)) in
    let is = c.debt_at.ensures in
    (omega (arith, ints, debt, is), omega (arith, ints, debt, is))

pub returns : goal.returns
returns g c =
    let debt = c.requires.row c.args.r (omega (arith, c.requires.register)) in
    let left : c.with_way-left.result.cost
    ≡ c.args.steps.now.left +ℤ at c.args.row.now.costs c.args.r = omega (
      arith,
      ints,
      debt,
      c.debt_at.ensures,
      c.with_way-left.ensures,
      c.requires.steps.left,
    ) in
    stays_in_both c.args.steps.now c.args.r c.requires.register c.args.row.now.costs
    c.debt_at-2.result.cost c.lesser.result.cost c.lesser-2.result.cost c.args.elsewhere.cost
    c.with_way-left.result.cost c.debt_at-2.ensures left c.lesser.ensures.one
    c.lesser.ensures.other c.lesser.ensures.met
    c.requires.elsewhere c.lesser-2.ensures.one c.lesser-2.ensures.other c.lesser-2.ensures.met
