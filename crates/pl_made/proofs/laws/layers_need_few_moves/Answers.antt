use Rattle.pl_made.proofs.Few.{few_at}
use Rattle.pl_made.proofs.laws.layers_need_few_moves.Goals as goal

pub returns : goal.returns
returns c = λ code net routes is has admitted b k. few_at code net routes is has admitted b k
