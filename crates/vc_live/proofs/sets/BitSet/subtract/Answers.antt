use Rattle.std.proofs.Common.{arith}
use Rattle.vc_live.proofs.SetLemmas.{subtracted_all}
use Rattle.vc_live.proofs.sets.BitSet.subtract.Goals as goal

pub returns-clause-members : goal.returns-clause-members
returns-clause-members c = rw (← c.self.view_is, ← c.other.view_is)
    (subtracted_all c.self.inside.words.items c.other.inside.words.items
    c.loop-i.self-inside.words.items
    (rw (← c.self.view_is, ← c.other.view_is) at c.requires) c.loop-i.invariant.words
    (λ k below. c.loop-i.invariant.done k (omega arith))
    (λ k below. c.loop-i.invariant.small k (omega arith)))
