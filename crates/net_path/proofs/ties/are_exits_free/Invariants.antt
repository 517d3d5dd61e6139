use Rattle.std.proofs.Common.{◌≡◌, ◌≤◌, ◌-◌, pos, get_or}
use Rattle.std.specs.List.{range_with_len}
use Rattle.pra_base.specs.declared.ids.Place.{Place}
use Rattle.net_dual.specs.Priced.{total, tie_price}
use Rattle.net_path.proofs.ties.are_exits_free.Given as goal

abbrev pub invariant-loop-tie : goal.invariant-loop-tie
invariant-loop-tie l = record {
  after : get_or l.net.index.exits l.strand 0 ≤ l.tie;
  free : (q : Place) → total (λ i. tie_price l.prices i q)
      (range_with_len (get_or l.net.index.exits l.strand 0)
      (l.tie - get_or l.net.index.exits l.strand 0)) ≡ pos 0;
}
