use Rattle.net_path.specs.Ways.{step_by}
use Rattle.net_path.specs.Rows.{IsPaidOver}
use Rattle.net_path.proofs.Placed.{HavePaid}
use Rattle.net_path.proofs.crossbar.pay_crossbar.Given as goal

abbrev pub invariant-loop-r : goal.invariant-loop-r
invariant-loop-r g l =
    HavePaid (λ p. IsPaidOver (step_by l.steps p) l.behind.costs) l.initial.cells.costs l.r
    l.cells.costs
