use Rattle.std.proofs.Common.{[], arith}
use Rattle.std.proofs.lemmas.List.{length_push}
use Rattle.vc_live.proofs.Sources.{empty_more, none_among}
use Rattle.vc_live.proofs.solve.no_sources.Goals as goal

pub loop-preserved : goal.loop-preserved
loop-preserved c = rw (c.in_ok-push.ensures.items, c.new.ensures) (record {
  count = omega (arith, length_push c.loop.sources.items [], c.loop.invariant.count);
  none = empty_more c.loop.sources.items c.loop.invariant.none;
})

pub returns-clause-none : goal.returns-clause-none
returns-clause-none c = none_among c.loop.sources.items c.loop.invariant.none
