use Rattle.pl_made.proofs.Parts.{behind_of}
use Rattle.pl_made.proofs.laws.made_code_is_behind.Goals as goal

pub returns : goal.returns
returns c = λ r p made. behind_of r p made
