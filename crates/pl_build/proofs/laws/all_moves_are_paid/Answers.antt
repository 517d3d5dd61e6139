use Rattle.pl_build.proofs.Paid.{all_paid}
use Rattle.pl_build.proofs.laws.all_moves_are_paid.Goals as goal

pub returns : goal.returns
returns c = λ code net routes p is has admitted made. all_paid code net routes is has admitted p
    made
