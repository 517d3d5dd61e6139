use Rattle.std.proofs.Common.{◌≡◌, ◌≤◌, length}
use Rattle.std.specs.List.{flat_map, range_with_len}
use Rattle.net_build.specs.Marks.{block_pairs, AreBefore}
use Rattle.net_build.proofs.pairs.pairs_of.Given as goal

abbrev pub invariant-loop-block : goal.invariant-loop-block
invariant-loop-block l = record {
  made : l.out ≡ flat_map (block_pairs l.code l.strands) (range_with_len 0 l.block);
  within : l.from ≤ length l.strands;
  before : AreBefore l.strands l.block l.from;
}
