use Rattle.ob_interp.proofs.Follows.{units_end_as_meant, units_go_as_meant}
use Rattle.ob_interp.proofs.laws.units_follow_the_meaning.Goals as goal

pub returns-clause-ends : goal.returns-clause-ends
returns-clause-ends c = units_end_as_meant

pub returns-clause-goes : goal.returns-clause-goes
returns-clause-goes c = units_go_as_meant
