use Rattle.ia_simulation.proofs.Whole as whole
use Rattle.ia_simulation.proofs.laws.moves_are_carried.Goals as goal

pub returns : goal.returns
returns c = whole.moves
