use Rattle.al_round.proofs.Chain.{are_an_ascent}
use Rattle.al_round.proofs.laws.raised_prices_are_an_ascent.Goals as goal

pub returns : goal.returns
returns c = are_an_ascent
