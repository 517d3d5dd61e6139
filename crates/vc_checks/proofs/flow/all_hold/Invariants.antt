use Rattle.std.proofs.Common.{take}
use Rattle.vc_checks.specs.Facts.{Kinds, Entail}
use Rattle.vc_checks.proofs.flow.all_hold.Given as goal

abbrev pub invariant-loop-fact : goal.invariant-loop-fact
invariant-loop-fact l = (kind : Kinds) → Entail kind l.known (take l.fact-index l.wanted)
