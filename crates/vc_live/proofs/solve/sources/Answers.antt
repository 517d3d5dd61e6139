use Rattle.std.proofs.Common.{ap, ◌∙◌, arith}
use Rattle.pra_base.specs.declared.code.Block.{Block}
use Rattle.vc_live.proofs.Made.{block_read}
use Rattle.vc_live.proofs.Sources.{leads_none, leads_more}
use Rattle.vc_live.proofs.solve.sources.Goals as goal

pub loop-block-init : goal.loop-block-init
loop-block-init c = leads_none c.args.code.now c.in_ok-sources.sources.items
    (c.in_ok-sources.ensures.count ∙ c.len.ensures) c.in_ok-sources.ensures.none

pub loop-block-preserved : goal.loop-block-preserved
loop-block-preserved c =
    let read = block_read c.args.code.now c.loop-block.block c.index.result.now
    (omega (arith, c.loop-block-test.true, c.len-block-end.ensures)) c.index.ensures in
    leads_more c.args.code.now c.loop-block.sources.items _ c.loop-block.block
    c.index.result.now.end c.loop-block.invariant (ap (λ (x : Block). x.end) read)
    c.in_ok-add_sources.ensures
