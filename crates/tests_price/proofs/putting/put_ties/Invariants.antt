use Rattle.net_dual.specs.Priced.{AreInRange}
use Rattle.tests_price.proofs.putting.put_ties.Given as goal

-- all prices are in range
abbrev pub invariant-loop-tie : goal.invariant-loop-tie
invariant-loop-tie l = AreInRange l.net l.prices
