use Rattle.pra_compile.proofs.Told.{one_chain}
use Rattle.pra_compile.proofs.laws.bounds_and_routes_have_one_chain.Goals as goal

pub returns : goal.returns
returns c = one_chain
