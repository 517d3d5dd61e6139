use Rattle.vc_expr.proofs.Choosing.{choice_arrives}
use Rattle.vc_expr.proofs.laws.choices_give_operators.Goals as goal

pub returns : goal.returns
returns c = λ w id first choice s op left right. choice_arrives w id first choice s op left right
