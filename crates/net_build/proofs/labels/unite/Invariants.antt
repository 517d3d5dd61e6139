use Rattle.std.proofs.Common.{◌≡◌, length}
use Rattle.net_build.specs.Labels.{GoDown, AreUnited}
use Rattle.net_build.proofs.labels.unite.Given as goal

abbrev pub invariant-loop-tie : goal.invariant-loop-tie
invariant-loop-tie l = record {
  count : length l.parents ≡ length l.initial.parents;
  down : GoDown l.parents;
  united : AreUnited l.ties l.tie-index l.parents;
}
