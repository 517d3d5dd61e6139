use Rattle.std.proofs.Common.{◌≡◌, ◌≤◌, ◌*◌, ◌^◌, ℕ, pos, None, take}
use Rattle.std.specs.List.{enumerate_from}
use Rattle.net_form.specs.declared.net.MemPair.{MemPair}
use Rattle.net_form.specs.Admitted.{uses_memory}
use Rattle.net_dual.specs.Priced.{total, pay, mem_price}
use Rattle.net_path.specs.Grounds.{edge}
use Rattle.net_plain.proofs.toll.pair_prices.Given as goal

abbrev pub invariant-loop-pair : goal.invariant-loop-pair
invariant-loop-pair l = record {
  total : pos l.total ≡ total (λ (m : ℕ × MemPair).
      pay (uses_memory m.1 (edge l.spot.strand l.spot.layer None l.place))
      (pos (mem_price l.prices m.0))) (enumerate_from 0 (take l.pair l.net.pairs));
  small : l.total ≤ 2 ^ 40 * l.pair;
}
