use Rattle.vc_relation.proofs.Variables.{assigned_variable}
use Rattle.vc_relation.proofs.laws.assignment_to_a_variable.Goals as goal

pub returns : goal.returns
returns c = λ t calls store old new l variable type_id v laid represents there scalar typed but
    written free.
    assigned_variable t old new but calls store laid represents l variable type_id v there scalar
    typed written free
