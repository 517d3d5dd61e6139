use Rattle.std.proofs.Common.{◌∙◌, arith}
use Rattle.net_form.specs.Strands.{layer_strands, layer_count}
use Rattle.net_form.specs.Tables.{all_tables}
use Rattle.vc_live.specs.Rows.{live_at}
use Rattle.net_build.proofs.Fits.{flat_all, part_more, part_stops, no_part}
use Rattle.net_build.proofs.fitting.pass_block.Goals as goal

pub loop-layer-init : goal.loop-layer-init
loop-layer-init c = flat_all (layer_strands all_tables c.args.code.now (live_at c.args.live.now)
    c.args.block)
    c.args.lists.now (layer_count c.args.code.now c.args.block) c.args.number

pub returns-in_err-next : goal.returns-in_err-next
returns-in_err-next c =
    c.from_residual.ensures ∙ part_stops (layer_strands all_tables c.args.code.now
    (live_at c.args.live.now) c.args.block)
    c.args.lists.now (layer_count c.args.code.now c.args.block) c.loop-layer.layer
    c.loop-layer.next _ (omega arith)
    c.in_err-next.ensures c.loop-layer.invariant

pub loop-layer-preserved : goal.loop-layer-preserved
loop-layer-preserved c =
    part_more (layer_strands all_tables c.args.code.now (live_at c.args.live.now) c.args.block)
    c.args.lists.now (layer_count c.args.code.now c.args.block) c.loop-layer.layer
    c.loop-layer.next c.in_ok-next.next _ (omega arith)
    c.in_ok-next.ensures c.loop-layer.invariant

pub returns : goal.returns
returns c =
    no_part (layer_strands all_tables c.args.code.now (live_at c.args.live.now) c.args.block)
    c.args.lists.now (layer_count c.args.code.now c.args.block) c.loop-layer.layer
    c.loop-layer.next _ (omega arith)
    c.loop-layer.invariant
