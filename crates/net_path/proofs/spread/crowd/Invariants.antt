use Rattle.net_path.specs.Rows.{HaveSameCosts}
use Rattle.net_path.proofs.spread.crowd.Given as goal

abbrev pub invariant-loop-at : goal.invariant-loop-at
invariant-loop-at l = HaveSameCosts l.initial.rows l.rows
