use Rattle.std.proofs.Common.{◌↔◌, length}
use Rattle.cert_check.specs.Listed.{AreTieNumbers}
use Rattle.cert_check.proofs.listed.are_numbers.Given as goal

abbrev pub invariant-loop-rest : goal.invariant-loop-rest
invariant-loop-rest l = AreTieNumbers l.count 0 l.entries ↔ AreTieNumbers l.count l.from l.rest

abbrev pub decreases-loop-rest : goal.decreases-loop-rest
decreases-loop-rest l = length l.rest
