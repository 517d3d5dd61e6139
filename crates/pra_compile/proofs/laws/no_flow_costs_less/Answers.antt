use Rattle.pra_compile.proofs.Told.{bound_holds}
use Rattle.pra_compile.proofs.laws.no_flow_costs_less.Goals as goal

pub returns : goal.returns
returns c = bound_holds
