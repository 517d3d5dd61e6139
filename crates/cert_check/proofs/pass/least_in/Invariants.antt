use Rattle.net_dual.specs.Leasts.{IsLeastOf, cost_at}
use Rattle.cert_check.proofs.pass.least_in.Given as goal

abbrev pub invariant-loop-at : goal.invariant-loop-at
invariant-loop-at l = IsLeastOf (cost_at l.row) l.at l.least
