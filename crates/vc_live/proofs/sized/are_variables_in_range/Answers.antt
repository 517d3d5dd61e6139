use Rattle.std.proofs.Common.{arith}
use Rattle.vc_live.specs.Sized.{Each, NamesBelow}
use Rattle.vc_live.proofs.SizedLemmas.{one_more, of_all, of_one, nothing_in, granted, refused_by}
use Rattle.vc_live.proofs.sized.are_variables_in_range.Goals as goal

pub returns-then-not-all_names_below : goal.returns-then-not-all_names_below
returns-then-not-all_names_below c = refused_by c.if-not-all_names_below.ensures
    (λ each. rw c.as_slice.ensures
    (of_one (λ b. Each b.code (NamesBelow c.args.count)) c.args.blocks.now c.loop-block.block-index
    c.block-item.result c.loop-block-test.true c.block-item.is (each c.loop-block.block-index)))

pub loop-block-preserved : goal.loop-block-preserved
loop-block-preserved c = one_more (λ b. Each b.code (NamesBelow c.args.count)) c.args.blocks.now
    c.loop-block.block-index c.block-item.result c.loop-block.invariant c.loop-block-test.true
    c.block-item.is (rw (← c.as_slice.ensures)
    (c.all_names_below.ensures.0 c.if-not-all_names_below.false))

pub returns : goal.returns
returns c = granted (of_all (λ b. Each b.code (NamesBelow c.args.count)) c.args.blocks.now
    c.loop-block.block-index c.loop-block.invariant (omega arith)
    (nothing_in (NamesBelow c.args.count)))
