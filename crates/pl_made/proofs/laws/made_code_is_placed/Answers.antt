use Rattle.pl_made.proofs.Whole.{is_placed}
use Rattle.pl_made.proofs.laws.made_code_is_placed.Goals as goal

pub returns : goal.returns
returns c = λ code net routes p is has admitted valid sized made. is_placed code net routes is has
    admitted valid sized p made
