use Rattle.std.proofs.Common.{◌≤◌, get_or}
use Rattle.net_path.proofs.spread.entry_may_be_drawn.Given as goal

abbrev pub invariant-loop-at : goal.invariant-loop-at
invariant-loop-at l = get_or l.net.index.entries l.strand 0 ≤ l.at
