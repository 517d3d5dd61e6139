use Rattle.std.proofs.Common.{arith, sym, ◌∙◌}
use Rattle.vc_tidy.proofs.Marking.{no_instr}
use Rattle.vc_tidy.proofs.Joining.{join_out, join_in, join_done}
use Rattle.vc_tidy.proofs.join.joined.Goals as goal

pub loop-instr-preserved : goal.loop-instr-preserved
loop-instr-preserved c = rw (c.in_ok-push.ensures.items, c.renamed.ensures)
    (join_in c.args.names.now c.args.code.now c.loop-instr.new.items _ c.loop-instr.instr-index
    no_instr c.loop-instr-test.true c.loop-instr.invariant
    (sym c.is_joined.ensures ∙ c.if-is_joined.false))

pub loop-instr-preserved-then-is_joined : goal.loop-instr-preserved-then-is_joined
loop-instr-preserved-then-is_joined c = join_out c.args.names.now c.args.code.now
    c.loop-instr.new.items _ c.loop-instr.instr-index no_instr c.loop-instr-test.true
    c.loop-instr.invariant (sym c.is_joined.ensures ∙ c.if-is_joined.true)

pub returns : goal.returns
returns c = join_done c.args.names.now c.args.code.now c.loop-instr.new.items _
    c.loop-instr.instr-index (omega arith) c.loop-instr.invariant
