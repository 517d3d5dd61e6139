use Rattle.std.proofs.Common.{◌≡◌, length, arith}
use Rattle.vc_tidy.proofs.Thin.{all_none, has_marks}
use Rattle.vc_tidy.proofs.dead.thin_blocks.Goals as goal

pub loop-b-init : goal.loop-b-init
loop-b-init c =
    let filled : length c.loop.marks.items ≡ length c.args.code.now.vars =
    omega (
      arith,
      c.loop.invariant,
      c.loop-test.false,
      c.loop.auto.counter-end,
      c.len-end.ensures,
    ) in
    record {
      count = filled;
      thins = all_none c.args.liveness.now c.args.code.now.blocks
          c.in_ok-blocks.blocks.items c.in_ok-blocks.ensures.items;
    }

pub thin_block-requires-clause-names : goal.thin_block-requires-clause-names
thin_block-requires-clause-names c = has_marks c.args.code.now c.loop-b.marks.items c.loop-b.b
    c.index.result.now c.requires c.loop-b.invariant.count
    (omega (arith, c.loop-b-test.true, c.len-b-end.ensures)) c.index.ensures
