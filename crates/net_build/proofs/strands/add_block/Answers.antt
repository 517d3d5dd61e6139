use Rattle.net_form.specs.Strands.{layer_strands}
use Rattle.net_form.specs.Tables.{all_tables}
use Rattle.vc_live.specs.Rows.{live_at}
use Rattle.net_build.proofs.Ranges.{added_all}
use Rattle.net_build.proofs.strands.add_block.Goals as goal

pub loop-layer-preserved : goal.loop-layer-preserved
loop-layer-preserved c =
    added_all (layer_strands all_tables c.args.code.now (live_at c.args.live.now) c.args.block)
    c.loop-layer.layer _ _ _ c.loop-layer.invariant c.in_ok-add_layer.ensures
