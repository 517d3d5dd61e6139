use Rattle.pra_compile.proofs.Told.{some_line, few_rounds, stopped, went_on}
use Rattle.pra_compile.proofs.laws.rounds_are_as_wanted.Goals as goal

pub returns-clause-some : goal.returns-clause-some
returns-clause-some c = some_line

pub returns-clause-most : goal.returns-clause-most
returns-clause-most c = few_rounds

pub returns-clause-fewer : goal.returns-clause-fewer
returns-clause-fewer c = stopped

pub returns-clause-went : goal.returns-clause-went
returns-clause-went c = λ wanted net routes prices lines k line granted inside there.
    went_on wanted net routes prices lines granted k line inside there
