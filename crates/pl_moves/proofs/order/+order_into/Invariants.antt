use Rattle.std.proofs.Common.{length}
use Rattle.pl_moves.proofs.order.+order_into.Given as goal

abbrev pub decreases-order_into : goal.decreases-order_into
decreases-order_into l = length l.brings.now
