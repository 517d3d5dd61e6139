use Rattle.vc_relation.proofs.Variables.{freed}
use Rattle.vc_relation.proofs.laws.temporaries_are_free.Goals as goal

pub returns : goal.returns
returns c = λ t calls store old new laid represents but free. freed t old new but calls store laid
    represents free
