use Rattle.std.proofs.Common.{◌≤◌, ◌-◌, false, get_or, take}
use Rattle.net_dual.specs.Priced.{total}
use Rattle.net_path.specs.Ties.{ArePaidInAll, tie_pay, entry_ties}
use Rattle.net_path.proofs.ties.pay_entries.Given as goal

abbrev pub invariant-loop-at : goal.invariant-loop-at
invariant-loop-at l = record {
  after : get_or l.net.index.entries l.strand 0 ≤ l.at;
  paid : ArePaidInAll (λ place. total (λ i. tie_pay l.prices false i place)
      (take (l.at - get_or l.net.index.entries l.strand 0) (entry_ties l.net l.strand)))
      l.initial.row.costs l.row.costs;
}
