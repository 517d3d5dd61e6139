use Rattle.al_laws.proofs.StaySettled.{strand_stays, variable_stays}
use Rattle.al_laws.proofs.laws.who_is_settled_stays_so.Goals as goal

pub returns-clause-strand : goal.returns-clause-strand
returns-clause-strand c = strand_stays

pub returns-clause-variable : goal.returns-clause-variable
returns-clause-variable c = variable_stays
