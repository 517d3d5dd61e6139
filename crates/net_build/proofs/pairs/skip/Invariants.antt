use Rattle.std.proofs.Common.{◌≤◌, ◌-◌, length}
use Rattle.net_build.specs.Marks.{AreBefore}
use Rattle.net_build.proofs.pairs.skip.Given as goal

abbrev pub invariant-loop-at : goal.invariant-loop-at
invariant-loop-at l = record {
  within : l.at ≤ length l.strands;
  before : AreBefore l.strands l.block l.at;
}

abbrev pub decreases-loop-at : goal.decreases-loop-at
decreases-loop-at l = length l.strands - l.at
