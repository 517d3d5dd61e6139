use Rattle.al_round.proofs.Chain.{are_a_chain}
use Rattle.al_round.proofs.laws.prices_are_a_chain.Goals as goal

pub returns : goal.returns
returns c = are_a_chain
