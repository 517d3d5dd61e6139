use Rattle.std.proofs.Common.{sym, subst}
use Rattle.vc_checked.specs.Short.{IsShort}
use Rattle.vc_checked.proofs.Short.{module_short}
use Rattle.vc_checked.proofs.laws.checked_modules_are_short.Goals as goal

pub returns : goal.returns
returns c = λ bytes tokens m checked parsed is. subst IsShort (sym is.checked_is)
    (module_short bytes tokens m is.reading parsed is.well_formed)
