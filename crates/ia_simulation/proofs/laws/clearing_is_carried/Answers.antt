use Rattle.ia_simulation.proofs.Whole as whole
use Rattle.ia_simulation.proofs.laws.clearing_is_carried.Goals as goal

pub returns : goal.returns
returns c = whole.clears
