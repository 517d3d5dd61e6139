use Rattle.std.proofs.Common.{◌≡◌, ◌+◌, ◌+ℤ◌, arith}
use Rattle.std.proofs.lemmas.Int.{ints}
use Rattle.net_path.specs.Ways.{at}
use Rattle.net_path.proofs.Staying.{stays_alone}
use Rattle.net_path.proofs.crossbar.debt_alone.Goals as goal

pub with_way-stored-requires-clause-debt : goal.with_way-stored-requires-clause-debt
with_way-stored-requires-clause-debt g c =
    let debt = c.requires.row (8 + c.args.r) (omega (arith, c.requires.register)) in
    let is = c.debt_at.ensures in
    (omega (arith, ints, debt, is), omega (arith, ints, debt, is))

pub returns : goal.returns
returns g c =
    let debt = c.requires.row (8 + c.args.r) (omega (arith, c.requires.register)) in
    let stored : c.with_way-stored.result.cost
    ≡ c.args.steps.now.kept +ℤ at c.args.row.now.costs (8 + c.args.r) = omega (
      arith,
      ints,
      debt,
      c.debt_at.ensures,
      c.with_way-stored.ensures,
      c.requires.steps.kept,
    ) in
    stays_alone c.args.steps.now c.args.r c.requires.register c.args.row.now.costs
    c.debt_at-2.result.cost c.lesser.result.cost c.lesser-2.result.cost c.args.elsewhere.cost
    c.with_way-stored.result.cost c.debt_at-2.ensures stored c.lesser.ensures.one
    c.lesser.ensures.other c.lesser.ensures.met
    c.requires.elsewhere c.lesser-2.ensures.one c.lesser-2.ensures.other c.lesser-2.ensures.met
