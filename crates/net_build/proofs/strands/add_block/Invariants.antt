use Rattle.std.proofs.Common.{◌≡◌, ◌++◌}
use Rattle.std.specs.List.{range_with_len, flat_map}
use Rattle.net_form.specs.Strands.{layer_strands}
use Rattle.net_form.specs.Tables.{all_tables}
use Rattle.vc_live.specs.Rows.{live_at}
use Rattle.net_build.proofs.strands.add_block.Given as goal

abbrev pub invariant-loop-layer : goal.invariant-loop-layer
invariant-loop-layer l = l.out ≡ l.initial.out
    ++ flat_map (layer_strands all_tables l.code (live_at l.live) l.block)
    (range_with_len 0 l.layer)
