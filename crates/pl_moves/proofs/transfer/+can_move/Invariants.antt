use Rattle.std.proofs.Common.{length}
use Rattle.pl_moves.proofs.transfer.+can_move.Given as goal

abbrev pub decreases-can_move : goal.decreases-can_move
decreases-can_move l = length l.pairs.now
