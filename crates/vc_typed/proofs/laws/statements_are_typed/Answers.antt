use Rattle.vc_typed.proofs.StatementTrees.{body_typed}
use Rattle.vc_typed.proofs.laws.statements_are_typed.Goals as goal

pub returns : goal.returns
returns c = body_typed
