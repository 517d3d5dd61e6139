use Rattle.ia_step.proofs.Runs.{is_machine, progress_keeps}
use Rattle.ia_step.proofs.laws.is_a_machine.Goals as goal

pub returns-clause-machine : goal.returns-clause-machine
returns-clause-machine c = is_machine

pub returns-clause-keeps : goal.returns-clause-keeps
returns-clause-keeps c = progress_keeps
