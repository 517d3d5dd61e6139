use Rattle.std.proofs.Common.{length, arith}
use Rattle.vc_live.specs.Sets.{contains}
use Rattle.vc_live.proofs.RowLemmas.{confined_step, fits_at}
use Rattle.vc_live.proofs.liveness.confine.Goals as goal

pub mark_reads-requires : goal.mark_reads-requires
mark_reads-requires c = fits_at (length c.args.seen.now) _ c.loop-k.k c.args.block.now.code
    c.index.result.now c.requires.code c.index.ensures (omega arith) c.loop-k.invariant.seen_words

pub loop-k-preserved : goal.loop-k-preserved
loop-k-preserved c = confined_step (contains c.args.constants.now) c.args.block.now.code
    (length c.args.seen.now) c.args.rows.now.items c.loop-k.rows.items c.loop-k.seen
    c.mark_reads.new.set c.confine.new.self c.index_mut.result.now c.loop-k.k _ c.index.result.now
    c.loop-k.invariant (omega (arith, c.loop-k.invariant.same_count, c.requires.count))
    (omega (arith, c.loop-k.invariant.same_count, c.requires.count)) (omega arith)
    c.index.ensures c.mark_reads.ensures.words c.mark_reads.ensures.members
    c.index_mut.ensures.value c.confine.ensures.words c.confine.ensures.members
