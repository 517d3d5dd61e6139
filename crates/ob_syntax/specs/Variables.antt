-- Resolved expressions that are variables.
use Rattle.std.specs.Prelude.{Option, Some, None}
use Rattle.ob_syntax.specs.declared.checked.RExpr.{RExpr, RExpr-F, out-RExpr}
use Rattle.ob_syntax.specs.declared.checked.RVar.{RVar}

-- the variable that an expression is, if it is one
abbrev pub variable_of : RExpr → Option RVar
variable_of e = elim (out-RExpr e) [
  | RExpr-F.Var v ↦ Some v
  | RExpr-F.Number n ↦ None
  | RExpr-F.Truth b ↦ None
  | RExpr-F.Negate inner ↦ None
  | RExpr-F.Not inner ↦ None
  | RExpr-F.Binary op left right ↦ None
]
