use Rattle.std.proofs.Common.{rules}
use Rattle.pra_io.proofs.Pieces.{Appends-piece}
use Rattle.pra_io.proofs.streams.write_all.Goals as goal

pub loop-at-preserved : goal.loop-at-preserved
loop-at-preserved g c = record {
  within = search rules;
  put = Appends-piece _ _ _ _ _ _ c.loop-at.invariant.put c.in_ok-at.ensures.bytes;
  later = search rules;
}
