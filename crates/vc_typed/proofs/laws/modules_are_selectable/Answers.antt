use Rattle.vc_typed.proofs.Selectable.{module_selectable}
use Rattle.vc_typed.proofs.laws.modules_are_selectable.Goals as goal

pub returns : goal.returns
returns c = module_selectable
