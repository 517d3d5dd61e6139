use Rattle.std.proofs.Common.{◌∙◌, length, arith}
use Rattle.net_form.specs.Strands.{block_strands}
use Rattle.net_form.specs.Tables.{all_tables}
use Rattle.vc_live.specs.Rows.{live_at}
use Rattle.net_build.proofs.Fits.{flat_all, part_more, part_stops, no_part}
use Rattle.net_build.proofs.fitting.pass_all.Goals as goal

pub loop-block-init : goal.loop-block-init
loop-block-init c = flat_all (block_strands all_tables c.args.code.now (live_at c.args.live.now))
    c.args.lists.now (length c.args.code.now.blocks) 0

pub returns-in_err-next : goal.returns-in_err-next
returns-in_err-next c =
    c.from_residual.ensures ∙ part_stops (block_strands all_tables c.args.code.now
    (live_at c.args.live.now))
    c.args.lists.now (length c.args.code.now.blocks) c.loop-block.block c.loop-block.next _
    (omega arith)
    c.in_err-next.ensures c.loop-block.invariant

pub loop-block-preserved : goal.loop-block-preserved
loop-block-preserved c =
    part_more (block_strands all_tables c.args.code.now (live_at c.args.live.now))
    c.args.lists.now (length c.args.code.now.blocks) c.loop-block.block c.loop-block.next
    c.in_ok-next.next _ (omega arith)
    c.in_ok-next.ensures c.loop-block.invariant

pub returns : goal.returns
returns c =
    no_part (block_strands all_tables c.args.code.now (live_at c.args.live.now))
    c.args.lists.now (length c.args.code.now.blocks) c.loop-block.block c.loop-block.next _
    (omega arith)
    c.loop-block.invariant
