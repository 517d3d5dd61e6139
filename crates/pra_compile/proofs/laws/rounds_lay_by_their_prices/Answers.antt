use Rattle.pra_compile.proofs.Told.{laid}
use Rattle.pra_compile.proofs.laws.rounds_lay_by_their_prices.Goals as goal

pub returns : goal.returns
returns c = laid
