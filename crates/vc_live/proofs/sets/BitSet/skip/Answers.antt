use Rattle.std.proofs.Common.{arith}
use Rattle.vc_live.proofs.SetLemmas.{blank_word}
use Rattle.vc_live.proofs.sets.BitSet.skip.Goals as goal

pub returns-clause-none : goal.returns-clause-none
returns-clause-none c = rw (← c.self.view_is)
    (λ u le lt. blank_word c.self.inside.words.items c.args.v c.index.result.now (omega arith)
    c.index.ensures c.if-index-ne0.false u (omega (arith, le, lt)))
