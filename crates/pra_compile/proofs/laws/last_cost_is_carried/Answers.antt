use Rattle.pra_compile.proofs.Told.{last_cost_carried}
use Rattle.pra_compile.proofs.laws.last_cost_is_carried.Goals as goal

pub returns : goal.returns
returns c = last_cost_carried
