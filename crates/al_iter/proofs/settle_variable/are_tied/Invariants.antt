use Rattle.std.proofs.Common.{◌<◌, ℕ, get_or}
use Rattle.net_form.specs.Admitted.{strand_at}
use Rattle.al_iter.specs.SettleSums.{IsUntied}
use Rattle.al_iter.proofs.settle_variable.are_tied.Given as goal

abbrev pub invariant-loop-at : goal.invariant-loop-at
invariant-loop-at l = (k : ℕ) → k < l.at → IsUntied (strand_at l.net (get_or l.strands k 0))
