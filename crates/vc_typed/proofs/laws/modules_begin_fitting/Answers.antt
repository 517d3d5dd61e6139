use Rattle.vc_typed.proofs.Beginning.{begins}
use Rattle.vc_typed.proofs.ProcedureTrees.{reading_sound}
use Rattle.vc_typed.proofs.laws.modules_begin_fitting.Goals as goal

pub returns : goal.returns
returns c = λ bytes tokens m r is. begins bytes tokens m r (reading_sound bytes tokens m r is)
