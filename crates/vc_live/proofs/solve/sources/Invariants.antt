use Rattle.vc_live.specs.Spreading.{LeadTo}
use Rattle.vc_live.proofs.solve.sources.Given as goal

abbrev pub invariant-loop-block : goal.invariant-loop-block
invariant-loop-block l = LeadTo l.code l.sources.items l.block
