use Rattle.std.proofs.Common.{◌≡◌, length}
use Rattle.al_simul.proofs.sweeping.path_of.Given as goal

abbrev pub invariant-loop-number : goal.invariant-loop-number
invariant-loop-number l = length l.path ≡ l.number
