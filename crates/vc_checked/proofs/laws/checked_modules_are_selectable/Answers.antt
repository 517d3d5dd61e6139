use Rattle.std.proofs.Common.{sym, subst}
use Rattle.vc_typed.specs.TypedModules.{IsSelectable}
use Rattle.vc_typed.proofs.Selectable.{module_selectable}
use Rattle.vc_checked.proofs.laws.checked_modules_are_selectable.Goals as goal

pub returns : goal.returns
returns c = λ bytes tokens m checked is. subst IsSelectable (sym is.checked_is)
    (module_selectable bytes tokens m is.reading is.well_formed is.within)
