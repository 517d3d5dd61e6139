use Rattle.std.proofs.Common.{◌≡◌, ◌*◌, ◌^◌, ℕ, None, take}
use Rattle.std.specs.List.{enumerate_from}
use Rattle.net_form.specs.declared.net.Tie.{Tie}
use Rattle.net_dual.specs.Priced.{total, pay, tie_price, exits}
use Rattle.net_dual.specs.Small.{IsWithin}
use Rattle.net_path.specs.Grounds.{edge}
use Rattle.net_plain.proofs.toll.exit_numbers.Given as goal

abbrev pub invariant-loop-tie : goal.invariant-loop-tie
invariant-loop-tie l = record {
  total : l.total ≡ total (λ (t : ℕ × Tie).
      pay (exits l.net t.1 (edge l.spot.strand l.spot.layer None l.place))
      (tie_price l.prices t.0 l.place)) (enumerate_from 0 (take l.tie l.net.ties));
  small : IsWithin (2 ^ 40 * l.tie) l.total;
}
