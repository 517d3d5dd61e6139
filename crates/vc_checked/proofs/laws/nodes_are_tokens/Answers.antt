use Rattle.vc_checked.proofs.Short.{module_few}
use Rattle.vc_checked.proofs.laws.nodes_are_tokens.Goals as goal

pub returns : goal.returns
returns c = module_few
