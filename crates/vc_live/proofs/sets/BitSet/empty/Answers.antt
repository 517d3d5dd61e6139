use Rattle.vc_live.proofs.SetLemmas.{contains-replicate}
use Rattle.vc_live.proofs.sets.BitSet.empty.Goals as goal

pub returns-clause-none : goal.returns-clause-none
returns-clause-none c = rw c.loop.invariant (contains-replicate c.loop.counter)
