use Rattle.std.proofs.Common.{◌≡◌, map}
use Rattle.std.specs.List.{range_with_len}
use Rattle.net_form.specs.Index.{first_layer}
use Rattle.net_build.proofs.index.first_layers.Given as goal

abbrev pub invariant-loop-block : goal.invariant-loop-block
invariant-loop-block l = record {
  made : l.made ≡ map (first_layer l.blocks) (range_with_len 0 l.block-index);
  total : l.total ≡ first_layer l.blocks l.block-index;
}
