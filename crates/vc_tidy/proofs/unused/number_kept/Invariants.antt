use Rattle.vc_tidy.specs.Unused.{AreNumbers}
use Rattle.vc_tidy.proofs.unused.number_kept.Given as goal

abbrev pub invariant-loop-v : goal.invariant-loop-v
invariant-loop-v l = AreNumbers l.code l.marks l.names.items l.vars.items l.v
