use Rattle.vc_typed.proofs.Limited.{module_limited}
use Rattle.vc_typed.proofs.ProcedureTrees.{reading_sound}
use Rattle.vc_typed.proofs.laws.checked_modules_are_limited.Goals as goal

pub returns : goal.returns
returns c = λ bytes tokens m r is within. module_limited m r (reading_sound bytes tokens m r is)
    within
