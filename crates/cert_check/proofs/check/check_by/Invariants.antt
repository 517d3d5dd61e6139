use Rattle.cert_check.specs.Reasons.{HoldUpTo}
use Rattle.cert_check.proofs.check.check_by.Given as goal

abbrev pub invariant-loop-number : goal.invariant-loop-number
invariant-loop-number g l = HoldUpTo l.c l.number
