use Rattle.std.proofs.Common.{arith}
use Rattle.vc_live.proofs.SetLemmas.{confined_all}
use Rattle.vc_live.proofs.sets.BitSet.confine.Goals as goal

pub returns-clause-members : goal.returns-clause-members
returns-clause-members c = rw (← c.self.view_is, ← c.seen.view_is, ← c.bound.view_is)
    (confined_all c.self.inside.words.items c.seen.inside.words.items c.bound.inside.words.items
    c.loop-i.self-inside.words.items
    (rw (← c.self.view_is, ← c.seen.view_is) at c.requires.seen)
    (rw (← c.self.view_is, ← c.bound.view_is) at c.requires.bound) c.loop-i.invariant.words
    (λ k below. c.loop-i.invariant.done k (omega arith))
    (λ k below. c.loop-i.invariant.small k (omega arith)))
