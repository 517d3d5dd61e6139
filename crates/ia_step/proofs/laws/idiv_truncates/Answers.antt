use Rattle.ia_step.proofs.Division.{division}
use Rattle.ia_step.proofs.laws.idiv_truncates.Goals as goal

pub returns : goal.returns
returns c = division
