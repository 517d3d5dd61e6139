use Rattle.std.proofs.Common.{◌≤◌, ◌-◌, length}
use Rattle.net_build.specs.Order.{IsBetween}
use Rattle.net_build.proofs.order.place_of.Given as goal

abbrev pub invariant-loop-low : goal.invariant-loop-low
invariant-loop-low l = record {
  within : l.low ≤ l.high;
  high : l.high ≤ length l.strands;
  bounds : IsBetween l.strands (l.block, l.first, l.var) l.low l.high;
}

abbrev pub decreases-loop-low : goal.decreases-loop-low
decreases-loop-low l = l.high - l.low
