use Rattle.vc_relation.proofs.Parts.{one_path}
use Rattle.vc_relation.proofs.laws.a_word_is_of_one_scalar.Goals as goal

pub returns : goal.returns
returns c = λ shapes type_id one other p q ordered within there also s r same. one_path shapes
    ordered type_id one other p q within there also s r same
