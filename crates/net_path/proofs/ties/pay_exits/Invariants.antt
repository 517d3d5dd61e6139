use Rattle.std.proofs.Common.{◌≤◌, ◌-◌, true, get_or}
use Rattle.std.specs.List.{range_with_len}
use Rattle.net_dual.specs.Priced.{total}
use Rattle.net_path.specs.Ties.{ArePaidInAll, tie_pay}
use Rattle.net_path.proofs.ties.pay_exits.Given as goal

abbrev pub invariant-loop-tie : goal.invariant-loop-tie
invariant-loop-tie l = record {
  after : get_or l.net.index.exits l.strand 0 ≤ l.tie;
  paid : ArePaidInAll (λ place. total (λ i. tie_pay l.prices true i place)
      (range_with_len (get_or l.net.index.exits l.strand 0)
      (l.tie - get_or l.net.index.exits l.strand 0)))
      l.initial.row.costs l.row.costs;
}
