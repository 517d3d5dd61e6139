use Rattle.vc_expr.proofs.Finished.{is_valid}
use Rattle.vc_expr.proofs.laws.finished_code_is_valid.Goals as goal

pub returns : goal.returns
returns c = λ counts known code last. is_valid counts known code last
