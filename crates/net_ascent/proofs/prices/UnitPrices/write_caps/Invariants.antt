use Rattle.std.proofs.Common.{◌≡◌, ◌≤◌, All, length}
use Rattle.net_dual.specs.Priced.{most_price}
use Rattle.net_ascent.proofs.prices.UnitPrices.write_caps.Given as goal

abbrev pub invariant-loop-number : goal.invariant-loop-number
invariant-loop-number l = record {
  long : length l.caps ≡ length l.initial.caps;
  most : All (λ p. p ≤ most_price) l.caps;
}
