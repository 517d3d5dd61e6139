use Rattle.std.proofs.Common.{◌-◌, length, arith}
use Rattle.vc_live.proofs.RowLemmas.{began_back, stepped_back, fits_at}
use Rattle.vc_live.proofs.liveness.rows_back.Goals as goal

pub loop-left-init : goal.loop-left-init
loop-left-init c = rw (
  c.in_ok-push.ensures.items,
  c.in_ok-rows.ensures.items,
  c.in_ok-duplicate.ensures,
)
    (began_back _ c.args.block.now.code _ (length c.args.now.now) c.start_at_exit.new.set
    c.len-left.result c.len-left.ensures c.start_at_exit.ensures.words
    c.start_at_exit.ensures.members)

pub step_back-requires : goal.step_back-requires
step_back-requires c = fits_at (length c.args.now.now) _ (c.loop-left.left - 1)
    c.args.block.now.code c.index.result.now c.requires.code c.index.ensures
    (omega (arith, c.loop-left.invariant.within)) c.loop-left.invariant.now_words

pub loop-left-preserved : goal.loop-left-preserved
loop-left-preserved c = rw (c.in_ok-push-2.ensures.items, c.in_ok-duplicate-2.ensures)
    (stepped_back _ c.args.block.now.code _ (length c.args.now.now) c.loop-left.now
    c.step_back.new.set c.loop-left.rows.items c.loop-left.left c.index.result.now
    c.loop-left.invariant c.loop-left-test.true c.index.ensures c.step_back.ensures.words
    c.step_back.ensures.members)
