use Rattle.std.proofs.Common.{◌↔◌, length}
use Rattle.cert_check.specs.Listed.{AreCaps}
use Rattle.cert_check.proofs.listed.are_caps.Given as goal

abbrev pub invariant-loop-rest : goal.invariant-loop-rest
invariant-loop-rest l = AreCaps l.count 0 l.entries ↔ AreCaps l.count l.from l.rest

abbrev pub decreases-loop-rest : goal.decreases-loop-rest
decreases-loop-rest l = length l.rest
