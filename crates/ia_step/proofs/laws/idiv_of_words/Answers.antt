use Rattle.ia_step.proofs.Division.{word_quotient, positive_quotient}
use Rattle.ia_step.proofs.laws.idiv_of_words.Goals as goal

pub returns-clause-equal : goal.returns-clause-equal
returns-clause-equal c = word_quotient

pub returns-clause-positive : goal.returns-clause-positive
returns-clause-positive c = positive_quotient
