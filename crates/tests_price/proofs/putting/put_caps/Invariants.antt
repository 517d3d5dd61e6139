use Rattle.net_dual.specs.Priced.{AreInRange}
use Rattle.tests_price.proofs.putting.put_caps.Given as goal

-- all prices are in range
abbrev pub invariant-loop-cap : goal.invariant-loop-cap
invariant-loop-cap l = AreInRange l.net l.prices
