use Rattle.vc_checked.proofs.Short.{module_short}
use Rattle.vc_checked.proofs.laws.modules_are_short.Goals as goal

pub returns : goal.returns
returns c = module_short
