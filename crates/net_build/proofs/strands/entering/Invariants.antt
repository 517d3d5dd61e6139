use Rattle.std.proofs.Common.{◌-◌, ◌≤◌}
use Rattle.net_build.proofs.strands.entering.Given as goal

abbrev pub invariant-loop-var : goal.invariant-loop-var
invariant-loop-var l = l.from ≤ l.end

abbrev pub decreases-loop-var : goal.decreases-loop-var
decreases-loop-var l = l.end - l.from
