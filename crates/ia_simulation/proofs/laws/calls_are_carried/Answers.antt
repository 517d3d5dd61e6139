use Rattle.ia_simulation.proofs.Whole as whole
use Rattle.ia_simulation.proofs.laws.calls_are_carried.Goals as goal

pub returns-clause-push : goal.returns-clause-push
returns-clause-push c = whole.pushes

pub returns-clause-call : goal.returns-clause-call
returns-clause-call c = whole.calls
