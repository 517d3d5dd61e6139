use Rattle.al_laws.proofs.OneStrand.{strand_settled}
use Rattle.al_laws.proofs.Variable.{variable_settled}
use Rattle.al_laws.proofs.laws.none_cheaper_is_settled.Goals as goal

pub returns-clause-strand : goal.returns-clause-strand
returns-clause-strand c = λ net w routes s built. strand_settled net w routes s built.formed

pub returns-clause-variable : goal.returns-clause-variable
returns-clause-variable c = variable_settled
