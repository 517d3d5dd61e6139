use Rattle.std.proofs.Common.{length}
use Rattle.pl_moves.proofs.order.+redirect.Given as goal

abbrev pub decreases-redirect : goal.decreases-redirect
decreases-redirect l = length l.brings.now
