use Rattle.pra_base.proofs.Division.{floored}
use Rattle.pra_base.proofs.laws.division_floors.Goals as goal

pub returns : goal.returns
returns t = λ x d up. floored x d up
