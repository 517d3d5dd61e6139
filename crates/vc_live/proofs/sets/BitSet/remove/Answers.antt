use Rattle.vc_live.proofs.SetLemmas.{removed}
use Rattle.vc_live.proofs.sets.BitSet.remove.Goals as goal

pub returns-clause-members : goal.returns-clause-members
returns-clause-members c =
    rw (← c.self.view_is) (removed c.self.inside.words.items c.args.v c.index-word.result.now
    (rw (← c.self.view_is) at c.requires) c.index-word.ensures)
