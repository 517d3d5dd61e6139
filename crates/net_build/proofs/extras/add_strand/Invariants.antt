use Rattle.std.proofs.Common.{◌≡◌, ◌++◌, ◌+◌, length}
use Rattle.std.specs.List.{flat_map, enumerate_from}
use Rattle.net_build.specs.Extras.{layer_extras, strand_extras}
use Rattle.net_build.proofs.extras.add_strand.Given as goal

abbrev pub invariant-loop-rest : goal.invariant-loop-rest
invariant-loop-rest l = record {
  whole : l.out ++ flat_map (layer_extras l.code l.number l.strand) (enumerate_from l.layer l.rest)
      ≡ l.initial.out ++ strand_extras l.code (l.number, l.strand);
  layer : l.layer + length l.rest ≡ l.strand.first + length l.strand.masks;
}

abbrev pub decreases-loop-rest : goal.decreases-loop-rest
decreases-loop-rest l = length l.rest
