use Rattle.vc_relation.proofs.Parts.{lies_within}
use Rattle.vc_relation.proofs.laws.parts_lie_within.Goals as goal

pub returns : goal.returns
returns c = λ shapes type_id path part ordered within there. lies_within shapes ordered type_id path
    part within there
