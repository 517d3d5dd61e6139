use Rattle.ia_step.proofs.StepsKeep.{step_told}
use Rattle.ia_step.proofs.laws.step_tells_ending.Goals as goal

pub returns : goal.returns
returns c = step_told
