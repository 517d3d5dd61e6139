use Rattle.std.proofs.Common.{◌≡◌, ◌≤◌, ◌-◌, pos, get_or, take}
use Rattle.pra_base.specs.declared.ids.Place.{Place}
use Rattle.net_dual.specs.Priced.{total, tie_price}
use Rattle.net_path.specs.Ties.{entry_ties}
use Rattle.net_path.proofs.ties.are_entries_free.Given as goal

abbrev pub invariant-loop-at : goal.invariant-loop-at
invariant-loop-at l = record {
  after : get_or l.net.index.entries l.strand 0 ≤ l.at;
  free : (q : Place) → total (λ i. tie_price l.prices i q)
      (take (l.at - get_or l.net.index.entries l.strand 0) (entry_ties l.net l.strand)) ≡ pos 0;
}
