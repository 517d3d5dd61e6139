use Rattle.vc_call.proofs.Begun.{call_begins}
use Rattle.vc_call.proofs.laws.a_call_begins_in_the_relation.Goals as goal

pub returns : goal.returns
returns c = λ t id proc args calls store old new laid there represents arguments begun waits.
    call_begins t id proc args calls store old new laid there represents arguments begun waits
