use Rattle.vc_same.specs.SameRuns.{Preserves}
use Rattle.vc_tidy.specs.KindCounts.{KeepsKinds}
use Rattle.vc_tidy.specs.Steps.{size}
use Rattle.vc_tidy.proofs.steps.tidied.Given as goal

abbrev pub invariant-loop-now : goal.invariant-loop-now
invariant-loop-now l = Preserves l.code l.now × KeepsKinds l.code l.now

abbrev pub decreases-loop-now : goal.decreases-loop-now
decreases-loop-now l = size l.now
