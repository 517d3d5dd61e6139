use Rattle.vc_order.proofs.Turning.{negates}
use Rattle.vc_order.proofs.laws.opposite_conditions_negate.Goals as goal

pub returns : goal.returns
returns c = λ k a b. negates k a b
