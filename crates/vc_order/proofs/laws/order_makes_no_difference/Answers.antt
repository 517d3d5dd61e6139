use Rattle.vc_order.proofs.Beside.{same_runs}
use Rattle.vc_order.proofs.laws.order_makes_no_difference.Goals as goal

pub returns : goal.returns
returns c = λ to from old new is. same_runs to from old new is
