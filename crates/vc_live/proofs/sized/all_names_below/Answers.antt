use Rattle.std.proofs.Common.{arith}
use Rattle.vc_live.specs.Sized.{NamesBelow}
use Rattle.vc_live.proofs.SizedLemmas.{no_instr, one_more_read, of_each, granted}
use Rattle.vc_live.proofs.sized.all_names_below.Goals as goal

pub loop-instr-preserved : goal.loop-instr-preserved
loop-instr-preserved c = one_more_read (NamesBelow c.args.count) c.args.instrs.now
    c.loop-instr.instr-index no_instr c.loop-instr.invariant c.loop-instr-test.true
    (c.names_below.ensures.0 c.if-not-names_below.false)

pub returns : goal.returns
returns c = granted (of_each (NamesBelow c.args.count) c.args.instrs.now c.loop-instr.instr-index
    c.loop-instr.invariant (omega arith))
