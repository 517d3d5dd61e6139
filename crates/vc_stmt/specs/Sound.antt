-- What is asked of statements before code is selected for them.
use Rattle.std.specs.Prelude.{ℕ, Bool, false, ◌&&◌, List, map, Option, Some, None}
use Rattle.std.specs.Prelude.{slice_get}
use Rattle.ob_syntax.specs.WellFormed.{joined, lent_in, lent_in_arm, lent_step}
use Rattle.ob_syntax.specs.declared.checked.Checked.{Checked}
use Rattle.ob_syntax.specs.declared.checked.CheckedProc.{CheckedProc}
use Rattle.ob_syntax.specs.declared.checked.Root.{Root}
use Rattle.ob_syntax.specs.declared.checked.RArm.{RArm, fold-RArm}
use Rattle.ob_syntax.specs.declared.checked.RStmt.{RStmt}
use Rattle.vc_typed.specs.TypedModules.{all_have_addresses, lent_in_all}
use Rattle.vc_typed.specs.TypedStatements.{all_true, is_typed, is_typed_arm}
use Rattle.vc_typed.specs.TypedStatements.{are_typed}

abbrev pub addressed_in : Option CheckedProc → List Root → Bool
addressed_in None roots = false
addressed_in (Some proc) roots = all_have_addresses proc roots

-- In the body of a procedure: what is lent has an address.
abbrev pub addressed : Checked → ℕ → List Root → Bool
addressed program proc roots = addressed_in (slice_get program.procs proc) roots

-- A statement of the body of a procedure is typed, and what it lends has an address.
abbrev pub is_sound : Checked → ℕ → RStmt → Bool
is_sound program proc t = is_typed program proc t && addressed program proc (lent_in t)

abbrev pub are_sound : Checked → ℕ → List RStmt → Bool
are_sound program proc ts = are_typed program proc ts && addressed program proc (lent_in_all ts)

-- what the statements of an arm lend
abbrev pub lent_behind : RArm → List Root
lent_behind = fold-RArm (List Root) (List Root) lent_step lent_in_arm

-- The same of the condition of an arm with its statements, and of arms.
abbrev pub is_sound_arm : Checked → ℕ → RArm → Bool
is_sound_arm program proc arm =
    is_typed_arm program proc arm && addressed program proc (lent_behind arm)

abbrev pub are_sound_arms : Checked → ℕ → List RArm → Bool
are_sound_arms program proc arms =
    all_true (map (is_typed_arm program proc) arms)
    && addressed program proc (joined (map lent_behind arms))
