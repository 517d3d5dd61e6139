use Rattle.vc_live.proofs.SetLemmas.{inserted}
use Rattle.vc_live.proofs.sets.BitSet.insert.Goals as goal

pub returns-clause-members : goal.returns-clause-members
returns-clause-members c =
    rw (← c.self.view_is) (inserted c.self.inside.words.items c.args.v c.index-word.result.now
    (rw (← c.self.view_is) at c.requires) c.index-word.ensures)
