use Rattle.al_laws.proofs.EndsAnywhere.{anywhere_ends, open_ends, planned_ends}
use Rattle.al_laws.proofs.laws.ends_may_be_anywhere.Goals as goal

pub returns-clause-path : goal.returns-clause-path
returns-clause-path c = λ net s ps ends built lt path may.
    anywhere_ends net built s lt ends may ps path

pub returns-clause-group : goal.returns-clause-group
returns-clause-group c = λ net s plan g p built lt. open_ends net built s lt plan g p

pub returns-clause-plan : goal.returns-clause-plan
returns-clause-plan c = λ net s plan built lt. planned_ends net built s lt plan
