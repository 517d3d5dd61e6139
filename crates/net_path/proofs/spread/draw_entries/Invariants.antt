use Rattle.std.proofs.Common.{◌≤◌, get_or}
use Rattle.net_path.specs.Rows.{HaveSameCosts}
use Rattle.net_path.proofs.spread.draw_entries.Given as goal

abbrev pub invariant-loop-at : goal.invariant-loop-at
invariant-loop-at l = record {
  after : get_or l.net.index.entries l.strand 0 ≤ l.at;
  same : HaveSameCosts l.initial.rows l.rows;
}
