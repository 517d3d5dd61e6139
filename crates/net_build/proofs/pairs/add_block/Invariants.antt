use Rattle.std.proofs.Common.{◌≡◌, ◌++◌, ◌+◌, length}
use Rattle.std.specs.List.{filter_map, enumerate_from}
use Rattle.pra_base.specs.Code.{code_of}
use Rattle.pra_base.specs.Operands.{operands}
use Rattle.net_form.specs.Network.{marked, pair_of}
use Rattle.net_build.specs.Marks.{block_pairs}
use Rattle.net_build.proofs.pairs.add_block.Given as goal

abbrev pub invariant-loop-rest : goal.invariant-loop-rest
invariant-loop-rest l = record {
  whole : l.out ++ filter_map (λ i. pair_of l.strands l.block (marked i.0 (operands i.1)))
      (enumerate_from l.index l.rest)
      ≡ l.initial.out ++ block_pairs l.code l.strands l.block;
  index : l.index + length l.rest ≡ length (code_of l.code l.block);
}

abbrev pub decreases-loop-rest : goal.decreases-loop-rest
decreases-loop-rest l = length l.rest
