use Rattle.std.proofs.Common.{sym, arith, ◌∙◌, true≢false}
use Rattle.net_build.proofs.Places.{go_up, go_down}
use Rattle.net_build.proofs.order.place_of.Goals as goal

pub loop-low-preserved-then-is_before : goal.loop-low-preserved-then-is_before
loop-low-preserved-then-is_before c = record {
  within = omega arith;
  high = c.loop-low.invariant.high;
  bounds = go_up c.args.strands.now c.requires.order _ c.loop-low.low c.loop-low.high
      c.loop-low.invariant.bounds _ c.index.result.now
      (omega (arith, c.loop-low.invariant.high)) c.index.ensures
      (c.is_before.ensures.0 c.if-is_before.true);
}

pub loop-low-preserved : goal.loop-low-preserved
loop-low-preserved c = record {
  within = omega arith;
  high = omega (arith, c.loop-low.invariant.high);
  bounds = go_down c.args.strands.now c.requires.order _ c.loop-low.low c.loop-low.high
      c.loop-low.invariant.bounds _ c.index.result.now
      (omega (arith, c.loop-low.invariant.high)) c.index.ensures
      (λ before. true≢false (sym (c.is_before.ensures.1 before) ∙ c.if-is_before.false));
}
