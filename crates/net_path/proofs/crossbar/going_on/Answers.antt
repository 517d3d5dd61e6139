use Rattle.std.proofs.Common.{arith}
use Rattle.std.proofs.lemmas.Int.{ints}
use Rattle.net_path.proofs.Leasts.{least_of_four_same}
use Rattle.net_path.proofs.crossbar.going_on.Goals as goal

pub returns : goal.returns
returns g c = least_of_four_same c.with_way.result.cost c.with_way-2.result.cost
    c.with_way-3.result.cost c.with_way-4.result.cost _ _ _ _ _
    (omega (arith, ints, c.with_way.ensures, c.requires.by.alone, c.requires.bests.alone))
    (omega (arith, ints, c.with_way-2.ensures, c.requires.by.both, c.requires.bests.both))
    (omega (arith, ints, c.with_way-3.ensures, c.requires.by.memory, c.requires.bests.memory))
    (omega (arith, ints, c.with_way-4.ensures, c.requires.by.constant, c.requires.bests.constant))
    c.least_of_four.ensures
