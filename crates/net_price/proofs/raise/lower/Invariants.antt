use Rattle.std.proofs.Common.{ℕ, ◌≡◌, ◌≤◌, ◌<◌, ◌-◌, min, length, slice_index}
use Rattle.net_dual.specs.Priced.{most_price}
use Rattle.net_price.proofs.raise.lower.Given as goal

abbrev pub invariant-loop-at : goal.invariant-loop-at
invariant-loop-at l = record {
  done : (k : ℕ) → k < l.at →
      slice_index l.prices k ≡ min (slice_index l.initial.prices k - l.s) most_price;
  left : (k : ℕ) → l.at ≤ k → slice_index l.prices k ≡ slice_index l.initial.prices k;
  long : length l.prices ≡ length l.initial.prices;
}
