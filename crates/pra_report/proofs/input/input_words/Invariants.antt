use Rattle.std.proofs.Common.{length}
use Rattle.pra_report.proofs.ReadSoFar.{IsReadTo}
use Rattle.pra_report.proofs.input.input_words.Given as goal

abbrev pub invariant-parts : goal.invariant-parts
invariant-parts l = IsReadTo l.bytes l.words.items l.rest

abbrev pub decreases-parts : goal.decreases-parts
decreases-parts l = length l.rest
