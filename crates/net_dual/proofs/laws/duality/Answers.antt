use Rattle.net_dual.proofs.Duality.{duality_of_weights}
use Rattle.net_dual.proofs.laws.duality.Goals as goal

pub returns : goal.returns
returns c = duality_of_weights
