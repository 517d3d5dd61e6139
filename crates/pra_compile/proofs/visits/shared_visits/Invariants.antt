use Rattle.pra_compile.specs.Visits.{AreShares}
use Rattle.pra_compile.proofs.visits.shared_visits.Given as goal

abbrev pub invariant-loop-named : goal.invariant-loop-named
invariant-loop-named l = AreShares l.named-index l.visits.items
