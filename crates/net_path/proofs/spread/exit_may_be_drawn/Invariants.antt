use Rattle.std.specs.Prelude.{⊤}
use Rattle.net_path.proofs.spread.exit_may_be_drawn.Given as goal

abbrev pub invariant-loop-tie : goal.invariant-loop-tie
invariant-loop-tie l = ⊤
