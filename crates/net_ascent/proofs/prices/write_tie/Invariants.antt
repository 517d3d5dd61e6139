use Rattle.std.proofs.Common.{◌≡◌, pos, ◌-ℤ◌, ◌≤ℤ◌, All, length}
use Rattle.net_dual.specs.Priced.{most_price}
use Rattle.net_ascent.proofs.prices.write_tie.Given as goal

abbrev pub invariant-loop-slot : goal.invariant-loop-slot
invariant-loop-slot l = record {
  long : length l.ties ≡ length l.initial.ties;
  most : All (λ z. z ≤ℤ pos most_price) l.ties;
  least : All (λ z. (pos 0 -ℤ pos most_price) ≤ℤ z) l.ties;
}
