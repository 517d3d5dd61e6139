use Rattle.std.proofs.Common.{◌≡◌, ◌*◌, ◌^◌, ◌≤ℤ◌, pos, take}
use Rattle.net_cost.specs.Models.{weights_of}
use Rattle.al_iter.specs.SettleSums.{sum_of}
use Rattle.al_iter.proofs.settle_strands.sum_now.Given as goal

abbrev pub invariant-loop-at : goal.invariant-loop-at
invariant-loop-at g l = record {
  value : l.total ≡ sum_of l.net (weights_of l.model) l.routes (take l.at l.strands);
  least : pos 0 ≤ℤ l.total;
  most : l.total ≤ℤ pos (2 ^ 60 * l.at);
}
