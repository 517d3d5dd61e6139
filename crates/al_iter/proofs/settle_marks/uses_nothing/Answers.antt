use Rattle.al_iter.proofs.UsesNone.{in_memory_unused}
use Rattle.al_iter.proofs.settle_marks.uses_nothing.Goals as goal

pub returns : goal.returns
returns c = λ yes. in_memory_unused c.args.net.now c.requires.net c.args.strand c.requires.strand
    c.args.path.now c.requires.path (c.has_pairs.ensures c.if-has_pairs.false)
    (c.is_in_memory.ensures yes)
