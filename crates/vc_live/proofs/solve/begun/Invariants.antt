use Rattle.vc_live.proofs.Solved.{BegunTo}
use Rattle.vc_live.proofs.solve.begun.Given as goal

abbrev pub invariant-loop-block : goal.invariant-loop-block
invariant-loop-block l = BegunTo l.entries l.word l.left.items l.block
