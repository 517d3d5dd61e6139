use Rattle.net_dual.proofs.Duality.{one_lagrange}
use Rattle.net_dual.proofs.laws.networks_have_one_value.Goals as goal

pub returns : goal.returns
returns c = one_lagrange
