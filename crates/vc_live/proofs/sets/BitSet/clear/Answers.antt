use Rattle.std.proofs.Common.{arith}
use Rattle.vc_live.proofs.SetLemmas.{none_in}
use Rattle.vc_live.proofs.sets.BitSet.clear.Goals as goal

pub returns-clause-none : goal.returns-clause-none
returns-clause-none c = none_in c.loop-i.self-inside.words.items
    (λ k below. c.loop-i.invariant.done k (omega arith))
