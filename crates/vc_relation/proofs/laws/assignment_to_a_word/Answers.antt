use Rattle.vc_relation.proofs.Represented.{assigned_word}
use Rattle.vc_relation.proofs.laws.assignment_to_a_word.Goals as goal

pub returns : goal.returns
returns c = λ t calls store s l x w type_id v laid represents there scalar typed. assigned_word t
    calls store s l x w type_id v laid represents there scalar typed
