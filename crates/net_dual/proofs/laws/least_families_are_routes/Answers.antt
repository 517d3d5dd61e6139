use Rattle.net_dual.proofs.Duality.{family_routes}
use Rattle.net_dual.proofs.laws.least_families_are_routes.Goals as goal

pub returns : goal.returns
returns c = family_routes
