use Rattle.std.proofs.Common.{length}
use Rattle.vc_live.specs.Sets.{contains}
use Rattle.vc_live.proofs.Solved.{SolvedTo}
use Rattle.vc_live.proofs.solve.solve.Given as goal

abbrev pub invariant-loop-word : goal.invariant-loop-word
invariant-loop-word l = SolvedTo (length l.flow.constants) l.code (contains l.flow.constants)
    l.flow.stops l.entries.items l.word
