use Rattle.pra_compile.proofs.Told.{cost_of_routes}
use Rattle.pra_compile.proofs.laws.costs_are_those_of_routes.Goals as goal

pub returns : goal.returns
returns c = λ wanted net routes prices lines k line granted there.
    cost_of_routes wanted net routes prices lines granted k line there
