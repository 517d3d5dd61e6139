use Rattle.ia_step.specs.Run.{begin}
use Rattle.ia_step.proofs.StepsKeep.{kept_step}
use Rattle.ia_step.proofs.Runs.{kept_run}
use Rattle.ia_step.proofs.laws.code_stays.Goals as goal

pub returns-clause-step : goal.returns-clause-step
returns-clause-step c = kept_step

pub returns-clause-run : goal.returns-clause-run
returns-clause-run c = λ s m. kept_run m (begin s)
