use Rattle.std.proofs.Common.{arith}
use Rattle.vc_live.proofs.SetLemmas.{grown, not_grown, grown_less}
use Rattle.vc_live.proofs.sets.BitSet.grow.Goals as goal

pub returns-then-old-more-clause-members : goal.returns-then-old-more-clause-members
returns-then-old-more-clause-members c = rw (← c.self.view_is)
    (not_grown c.self.inside.words.items c.args.at c.index-old.result.now c.args.more
    (rw (← c.self.view_is) at c.requires) c.index-old.ensures c.if-old-more.true)

pub returns-clause-members : goal.returns-clause-members
returns-clause-members c = rw (← c.self.view_is)
    (grown c.self.inside.words.items c.args.at c.index-old.result.now c.args.more
    (rw (← c.self.view_is) at c.requires) c.index-old.ensures)

pub returns-clause-room : goal.returns-clause-room
returns-clause-room c = rw (← c.self.view_is)
    (grown_less c.self.inside.words.items c.args.at c.index-old.result.now c.args.more
    (rw (← c.self.view_is) at c.requires) c.index-old.ensures (omega arith) (omega arith)
    c.if-old-more.false)
