use Rattle.std.proofs.Common.{length, arith}
use Rattle.vc_live.specs.Sized.{TargetsBelow}
use Rattle.vc_live.proofs.SizedLemmas.{one_more, of_one, granted, refused_by, of_within}
use Rattle.vc_live.proofs.sized.are_targets_in_range.Goals as goal

pub returns-then-not-is_target_below : goal.returns-then-not-is_target_below
returns-then-not-is_target_below c = refused_by c.if-not-is_target_below.ensures
    (λ each. of_one (λ b. TargetsBelow (length c.args.blocks.now) b.end) c.args.blocks.now
    c.loop-block.block-index c.block-item.result c.loop-block-test.true c.block-item.is
    (λ t. each c.loop-block.block-index t c.loop-block-test.true))

pub loop-block-preserved : goal.loop-block-preserved
loop-block-preserved c = one_more (λ b. TargetsBelow (length c.args.blocks.now) b.end)
    c.args.blocks.now c.loop-block.block-index c.block-item.result c.loop-block.invariant
    c.loop-block-test.true c.block-item.is
    (c.is_target_below.ensures.0 c.if-not-is_target_below.false)

pub returns : goal.returns
returns c = granted (λ b t below. of_within (λ b. TargetsBelow (length c.args.blocks.now) b.end)
    c.args.blocks.now c.loop-block.block-index c.loop-block.invariant (omega arith) b below t)
