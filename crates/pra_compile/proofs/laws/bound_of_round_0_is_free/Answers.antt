use Rattle.pra_compile.proofs.FromPrices.{first_is_value, first_free}
use Rattle.pra_compile.proofs.laws.bound_of_round_0_is_free.Goals as goal

pub returns-clause-value : goal.returns-clause-value
returns-clause-value c = λ net w lines line z from there is.
    first_is_value net w lines from line z there is

pub returns-clause-free : goal.returns-clause-free
returns-clause-free c = λ net w lines line free from there is.
    first_free net w lines from line free there is
