use Rattle.vc_expr.proofs.Unread.{certifies_other}
use Rattle.vc_expr.proofs.laws.certificates_name_blocks.Goals as goal

pub returns : goal.returns
returns c = λ counts known other code. certifies_other counts known other code
