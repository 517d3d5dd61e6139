-- The variable that is lent, from the variable that an expression is.
use Rattle.std.proofs.Common.{◌≡◌, ℕ, Option, Some, None, Ok, Err, refl, nat_eq}
use Rattle.std.specs.Prelude.{if◌then◌else◌}
use Rattle.ob_syntax.specs.declared.checked.RExpr.{RExpr, RExpr-F, out-RExpr}
use Rattle.ob_syntax.specs.declared.checked.RStep.{RStep}
use Rattle.ob_syntax.specs.declared.checked.RVar.{RVar}
use Rattle.ob_syntax.specs.declared.checked.Typed.{Typed}
use Rattle.ob_syntax.specs.Names.{Judged}
use Rattle.ob_syntax.specs.Statements.{lent_variable}
use Rattle.ob_syntax.specs.Variables.{variable_of}

abbrev pub lent_from : ℕ → ℕ → ℕ → Option RVar → Judged RVar
lent_from type_id token its_type (Some v) =
    if nat_eq its_type type_id then Ok v else Err (23, token)
lent_from type_id token its_type None = Err (23, token)

pub lent_is : (type_id token : ℕ) (e : Typed) →
    lent_variable type_id token e ≡ lent_from type_id token e.type_id (variable_of e.expr)
lent_is type_id token e = by (out-RExpr e.expr) refl
  where
    by : (x : RExpr-F RExpr RStep RVar) → out-RExpr e.expr ≡ x →
        lent_variable type_id token e ≡ lent_from type_id token e.type_id (variable_of e.expr)
    by (RExpr-F.Var v) is = rw (is, lent_variable, variable_of)
    by (RExpr-F.Number n) is = rw (is, lent_variable, variable_of)
    by (RExpr-F.Truth b) is = rw (is, lent_variable, variable_of)
    by (RExpr-F.Negate inner) is = rw (is, lent_variable, variable_of)
    by (RExpr-F.Not inner) is = rw (is, lent_variable, variable_of)
    by (RExpr-F.Binary op left right) is = rw (is, lent_variable, variable_of)
