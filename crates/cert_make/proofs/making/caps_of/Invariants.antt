use Rattle.std.proofs.Common.{◌≡◌, ◌++◌, drop}
use Rattle.cert_make.specs.Made.{caps_from}
use Rattle.cert_make.proofs.making.caps_of.Given as goal

abbrev pub invariant-loop-index : goal.invariant-loop-index
invariant-loop-index l = l.caps ++ caps_from l.index (drop l.index l.prices) ≡ caps_from 0 l.prices
