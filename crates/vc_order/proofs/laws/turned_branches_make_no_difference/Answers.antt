use Rattle.vc_order.proofs.Beside.{turned_runs}
use Rattle.vc_order.proofs.laws.turned_branches_make_no_difference.Goals as goal

pub returns : goal.returns
returns c = λ old new is. turned_runs old new is
