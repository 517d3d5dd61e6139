use Rattle.pra_compile.proofs.FromPrices.{no_less, no_more}
use Rattle.pra_compile.proofs.laws.bounds_from_prices_hold.Goals as goal

pub returns-clause-least : goal.returns-clause-least
returns-clause-least c = λ net w lines k line free from there is.
    no_less net w lines from line k there free is

pub returns-clause-most : goal.returns-clause-most
returns-clause-most c = λ net w lines k line f from there formed a.
    no_more net w lines from line k there f formed a
