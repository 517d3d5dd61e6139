use Rattle.pra_compile.proofs.Told.{from_prices}
use Rattle.pra_compile.proofs.laws.bounds_come_from_prices.Goals as goal

pub returns : goal.returns
returns c = from_prices
