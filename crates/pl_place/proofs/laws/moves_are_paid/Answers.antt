use Rattle.pl_place.proofs.MovesArePaid.{moves_paid}
use Rattle.pl_place.proofs.laws.moves_are_paid.Goals as goal

pub returns : goal.returns
returns c = λ near ms pairs k. moves_paid near ms pairs k
