use Rattle.ia_step.proofs.Division.{no_quotient}
use Rattle.ia_step.proofs.laws.idiv_has_no_answer.Goals as goal

pub returns : goal.returns
returns c = no_quotient
