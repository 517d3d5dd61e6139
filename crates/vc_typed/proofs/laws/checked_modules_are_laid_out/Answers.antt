use Rattle.vc_typed.proofs.ProcedureTrees.{reading_sound}
use Rattle.vc_typed.proofs.LaidOut.{laid_out}
use Rattle.vc_typed.proofs.laws.checked_modules_are_laid_out.Goals as goal

pub returns : goal.returns
returns c = λ bytes tokens m r is within. laid_out m r (reading_sound bytes tokens m r is) within
