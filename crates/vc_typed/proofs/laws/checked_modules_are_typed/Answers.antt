use Rattle.vc_typed.proofs.Bodies.{module_typed}
use Rattle.vc_typed.proofs.ProcedureTrees.{reading_sound}
use Rattle.vc_typed.proofs.laws.checked_modules_are_typed.Goals as goal

pub returns : goal.returns
returns c = λ bytes tokens m r is. module_typed m r (reading_sound bytes tokens m r is)
