use Rattle.std.proofs.Common.{◌≡◌, drop}
use Rattle.pl_build.specs.Laid.{brought}
use Rattle.pl_build.proofs.laying.place_of.Given as goal

abbrev pub invariant-loop-pair : goal.invariant-loop-pair
invariant-loop-pair l = brought (drop l.pair-index l.pairs) l.var.0 ≡ brought l.pairs l.var.0
