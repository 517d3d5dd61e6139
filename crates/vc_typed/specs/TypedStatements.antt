-- Statements whose variables and expressions are of the types that they must be.
use Rattle.std.specs.Prelude.{ℕ, Bool, true, false, not, ◌&&◌, List, [], ◌∷◌, map, Option, Some}
use Rattle.std.specs.Prelude.{None, slice_get}
use Rattle.ob_syntax.specs.Expressions.{integer, boolean}
use Rattle.ob_syntax.specs.WellFormed.{is_scalar}
use Rattle.ob_syntax.specs.declared.checked.Checked.{Checked}
use Rattle.ob_syntax.specs.declared.checked.CheckedProc.{CheckedProc}
use Rattle.ob_syntax.specs.declared.checked.Param.{Param}
use Rattle.ob_syntax.specs.declared.checked.RArg.{RArg}
use Rattle.ob_syntax.specs.declared.checked.RArg.TheVariants.{Value, Lent}
use Rattle.ob_syntax.specs.declared.checked.RArm.{RArm, RArm-F, fold-RArm}
use Rattle.ob_syntax.specs.declared.checked.RStmt.{RStmt, RStmt-F, fold-RStmt}
use Rattle.vc_typed.specs.Typing.{Typing, is_of, typing, variable_typing}

abbrev pub all_true : List Bool → Bool
all_true [] = true
all_true (b ∷ bs) = b && all_true bs

-- a scalar variable, and a value of its type
abbrev pub is_assignable : Typing → Typing → Bool
is_assignable v e = v.good && (is_scalar v.type_id && is_of v.type_id e)

-- a value for a value parameter, or a variable for a VAR parameter, of the type of the parameter
abbrev pub is_passed : Checked → ℕ → Param → RArg → Bool
is_passed program proc param (Value e) =
    not param.by_var && is_of param.type_id (typing program proc e)
is_passed program proc param (Lent v) =
    param.by_var && is_of param.type_id (variable_typing program proc v)

-- one argument for each parameter
abbrev pub are_passed : Checked → ℕ → List Param → List RArg → Bool
are_passed program proc [] [] = true
are_passed program proc (param ∷ params) (arg ∷ args) =
    is_passed program proc param arg && are_passed program proc params args
are_passed program proc _ _ = false

-- the procedure that is called is there
abbrev pub is_call : Checked → ℕ → Option CheckedProc → List RArg → Bool
is_call program proc (Some callee) args = are_passed program proc callee.params args
is_call program proc None args = false

abbrev pub is_typed_step : Checked → ℕ → RStmt-F Bool Bool → Bool
is_typed_step program proc (RStmt-F.Assign v e) =
    is_assignable (variable_typing program proc v) (typing program proc e)
is_typed_step program proc (RStmt-F.If arms other) = all_true arms && all_true other
is_typed_step program proc (RStmt-F.While test body) =
    is_of boolean (typing program proc test) && all_true body
is_typed_step program proc (RStmt-F.Repeat body test) =
    all_true body && is_of boolean (typing program proc test)
is_typed_step program proc (RStmt-F.Call callee args) =
    is_call program proc (slice_get program.procs callee.0) args
is_typed_step program proc (RStmt-F.Read v) = is_of integer (variable_typing program proc v)
is_typed_step program proc (RStmt-F.Write e) = is_of integer (typing program proc e)
is_typed_step program proc RStmt-F.WriteLine = true

abbrev pub is_typed_arm_step : Checked → ℕ → RArm-F Bool Bool → Bool
is_typed_arm_step program proc arm =
    is_of boolean (typing program proc arm.test) && all_true arm.body

-- A statement of the body of a procedure is typed.
abbrev pub is_typed : Checked → ℕ → RStmt → Bool
is_typed program proc =
    fold-RStmt Bool Bool (is_typed_step program proc) (is_typed_arm_step program proc)

abbrev pub is_typed_arm : Checked → ℕ → RArm → Bool
is_typed_arm program proc =
    fold-RArm Bool Bool (is_typed_step program proc) (is_typed_arm_step program proc)

abbrev pub are_typed : Checked → ℕ → List RStmt → Bool
are_typed program proc body = all_true (map (is_typed program proc) body)
