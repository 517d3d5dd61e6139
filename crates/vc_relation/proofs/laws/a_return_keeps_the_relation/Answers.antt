use Rattle.vc_relation.proofs.Returned.{returned_represents}
use Rattle.vc_relation.proofs.laws.a_return_keeps_the_relation.Goals as goal

pub returns : goal.returns
returns c = λ t call calls store s active rest laid represents below. returned_represents t s active
    rest below call calls store laid represents
