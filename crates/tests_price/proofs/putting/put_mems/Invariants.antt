use Rattle.net_dual.specs.Priced.{AreInRange}
use Rattle.tests_price.proofs.putting.put_mems.Given as goal

-- all prices are in range
abbrev pub invariant-loop-mem : goal.invariant-loop-mem
invariant-loop-mem l = AreInRange l.net l.prices
