use Rattle.std.proofs.Common.{◌≡◌, ◌-◌}
use Rattle.std.specs.List.{range_with_len, flat_map}
use Rattle.net_form.specs.Strands.{layer_strands, block_strands, layer_count}
use Rattle.net_form.specs.Tables.{all_tables}
use Rattle.vc_live.specs.Rows.{live_at}
use Rattle.net_build.specs.Fitting.{behind}
use Rattle.net_build.proofs.fitting.pass_block.Given as goal

-- what is left gives what the whole gives
abbrev pub invariant-loop-layer : goal.invariant-loop-layer
invariant-loop-layer l =
    behind (flat_map (layer_strands all_tables l.code (live_at l.live) l.block)
    (range_with_len l.layer (layer_count l.code l.block - l.layer))) l.lists l.next ≡
    behind (block_strands all_tables l.code (live_at l.live) l.block) l.lists l.number
