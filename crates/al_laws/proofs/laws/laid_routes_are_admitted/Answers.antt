use Rattle.al_laws.proofs.Laid.{laid_routes, laid_admitted}
use Rattle.al_laws.proofs.laws.laid_routes_are_admitted.Goals as goal

pub returns : goal.returns
returns c = λ net w prices plan order routes built full many each laid. (
  laid_routes net built w prices plan order routes full many each laid,
  laid_admitted net built w prices plan order routes full many each laid,
)
