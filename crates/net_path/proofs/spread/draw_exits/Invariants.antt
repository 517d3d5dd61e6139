use Rattle.net_path.specs.Rows.{HaveSameCosts}
use Rattle.net_path.proofs.spread.draw_exits.Given as goal

abbrev pub invariant-loop-tie : goal.invariant-loop-tie
invariant-loop-tie l = HaveSameCosts l.initial.rows l.rows
