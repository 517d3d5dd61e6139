use Rattle.pra_follow.proofs.CodeOf.{is_code}
use Rattle.pra_follow.proofs.Meant.{are_valid}
use Rattle.pra_follow.proofs.laws.tidied_code_is_of_its_module.Goals as goal

pub returns-clause-one : goal.returns-clause-one
returns-clause-one c = λ program p proc code is there. is_code program p code is proc there

pub returns-clause-all : goal.returns-clause-all
returns-clause-all c = λ program codes selectable are. are_valid program codes selectable are
