use Rattle.ia_simulation.proofs.Whole as whole
use Rattle.ia_simulation.proofs.laws.checks_are_carried.Goals as goal

pub returns-clause-index : goal.returns-clause-index
returns-clause-index c = whole.checks

pub returns-clause-positive : goal.returns-clause-positive
returns-clause-positive c = whole.checks_positive
