use Rattle.vc_call.proofs.Begun.{module_begins}
use Rattle.vc_call.proofs.laws.a_module_begins_in_the_relation.Goals as goal

pub returns : goal.returns
returns c = λ t proc s laid there none begun alone globals. module_begins t proc s laid there none
    begun alone globals
