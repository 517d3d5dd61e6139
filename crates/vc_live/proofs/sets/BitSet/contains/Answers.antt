use Rattle.std.proofs.Common.{sym, arith}
use Rattle.vc_live.proofs.SetLemmas.{contains_read, contains_past}
use Rattle.vc_live.proofs.sets.BitSet.contains.Goals as goal

pub returns : goal.returns
returns c = rw (← c.self.view_is)
    (contains_read c.self.inside.words.items c.args.v c.index.result.now (omega arith)
    c.index.ensures)

pub returns-then-v-len : goal.returns-then-v-len
returns-then-v-len c = rw (← c.self.view_is)
    (sym (contains_past c.self.inside.words.items c.args.v (omega arith)))
