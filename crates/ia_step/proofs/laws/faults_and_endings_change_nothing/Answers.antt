use Rattle.ia_step.proofs.StepsKeep.{step_fault, step_over}
use Rattle.ia_step.proofs.laws.faults_and_endings_change_nothing.Goals as goal

pub returns-clause-fault : goal.returns-clause-fault
returns-clause-fault c = step_fault

pub returns-clause-ended : goal.returns-clause-ended
returns-clause-ended c = step_over
