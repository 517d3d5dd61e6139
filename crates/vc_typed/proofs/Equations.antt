-- The typing of each form of expression, selector and variable, as an equation.
use Rattle.std.proofs.Common.{◌≡◌, ℕ, ℤ, Bool, true, map, sym, ap, ◌∙◌}
use Rattle.std.specs.Prelude.{◌&&◌}
use Rattle.ob_syntax.specs.Expressions.{integer, boolean}
use Rattle.ob_syntax.specs.WellFormed.{is_scalar}
use Rattle.ob_syntax.specs.declared.checked.Checked.{Checked}
use Rattle.ob_syntax.specs.declared.checked.ROp.{ROp}
use Rattle.ob_syntax.specs.declared.checked.RExpr.{RExpr, RExpr-F, roll-RExpr, map-RExpr}
use Rattle.ob_syntax.specs.declared.checked.RExpr.{fold-roll-RExpr}
use Rattle.ob_syntax.specs.declared.checked.RExpr.TheVariants as x
use Rattle.ob_syntax.specs.declared.checked.RStep.{RStep, RStep-F, roll-RStep, map-RStep}
use Rattle.ob_syntax.specs.declared.checked.RStep.{fold-roll-RStep}
use Rattle.ob_syntax.specs.declared.checked.RStep.TheVariants as step
use Rattle.ob_syntax.specs.declared.checked.RVar.{RVar, fold_out-RVar}
use Rattle.vc_typed.specs.Typing.{Typing, typed, is_of, Leading, ToField, ToElement, binary_typing}
use Rattle.vc_typed.specs.Typing.{expr_typing, step_typing, designated_typing, var_typing, typing}
use Rattle.vc_typed.specs.Typing.{leading, variable_typing}

module _ (program : Checked) (proc : ℕ) where
  typing_roll : (e : RExpr-F RExpr RStep RVar) → typing program proc (roll-RExpr e) ≡
      expr_typing (map-RExpr RExpr RStep RVar Typing Leading Typing (typing program proc)
      (leading program proc) (variable_typing program proc) e)
  typing_roll = fold-roll-RExpr Typing Leading Typing expr_typing step_typing
      (var_typing program proc)

  pub typing-Number : (n : ℤ) → typing program proc (x.Number n) ≡ typed true integer
  typing-Number n = ap (typing program proc) (sym (x.rolls-Number n))
      ∙ typing_roll (RExpr-F.Number n)

  pub typing-Truth : (b : Bool) → typing program proc (x.Truth b) ≡ typed true boolean
  typing-Truth b = ap (typing program proc) (sym (x.rolls-Truth b)) ∙ typing_roll (RExpr-F.Truth b)

  pub typing-Var : (v : RVar) → typing program proc (x.Var v) ≡
      typed ((variable_typing program proc v).good && is_scalar
      (variable_typing program proc v).type_id) (variable_typing program proc v).type_id
  typing-Var v = ap (typing program proc) (sym (x.rolls-Var v)) ∙ typing_roll (RExpr-F.Var v)

  pub typing-Negate : (e : RExpr) → typing program proc (x.Negate e) ≡
      typed (is_of integer (typing program proc e)) integer
  typing-Negate e = ap (typing program proc) (sym (x.rolls-Negate e))
      ∙ typing_roll (RExpr-F.Negate e)

  pub typing-Not : (e : RExpr) → typing program proc (x.Not e) ≡
      typed (is_of boolean (typing program proc e)) boolean
  typing-Not e = ap (typing program proc) (sym (x.rolls-Not e)) ∙ typing_roll (RExpr-F.Not e)

  pub typing-Binary : (op : ROp) (a b : RExpr) → typing program proc (x.Binary op a b) ≡
      binary_typing op (typing program proc a) (typing program proc b)
  typing-Binary op a b = ap (typing program proc) (sym (x.rolls-Binary op a b))
      ∙ typing_roll (RExpr-F.Binary op a b)

  leading_roll : (e : RStep-F RExpr RStep RVar) → leading program proc (roll-RStep e) ≡
      step_typing (map-RStep RExpr RStep RVar Typing Leading Typing (typing program proc)
      (leading program proc) (variable_typing program proc) e)
  leading_roll = fold-roll-RStep Typing Leading Typing expr_typing step_typing
      (var_typing program proc)

  pub leading-Field : (k : ℕ) → leading program proc (step.Field k) ≡ ToField k
  leading-Field k = ap (leading program proc) (sym (step.rolls-Field k))
      ∙ leading_roll (RStep-F.Field k)

  pub leading-Index : (e : RExpr) → leading program proc (step.Index e) ≡
      ToElement (typing program proc e)
  leading-Index e = ap (leading program proc) (sym (step.rolls-Index e))
      ∙ leading_roll (RStep-F.Index e)

  pub variable_typing-is : (v : RVar) → variable_typing program proc v ≡
      designated_typing program proc v.root (map (leading program proc) v.steps) v.type_id
  variable_typing-is v = fold_out-RVar Typing Leading Typing expr_typing step_typing
      (var_typing program proc) v
