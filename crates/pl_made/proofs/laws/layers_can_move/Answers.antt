use Rattle.pl_made.proofs.CanMove.{can_move_at}
use Rattle.pl_made.proofs.laws.layers_can_move.Goals as goal

pub returns : goal.returns
returns c = λ code net routes is has admitted b k. can_move_at code net routes is has admitted b k
