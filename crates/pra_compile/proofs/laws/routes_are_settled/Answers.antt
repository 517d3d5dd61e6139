use Rattle.pra_compile.proofs.Told.{settled}
use Rattle.pra_compile.proofs.laws.routes_are_settled.Goals as goal

pub returns : goal.returns
returns c = settled
