-- What expressions mean (Wirth, The Programming Language Oberon, section 8; Compiler Construction,
-- chapter 6): a value, or a trap. The meaning of an expression is made of those of its parts, one
-- equation a form, and is evaluated from left to right.
use Rattle.std.specs.Prelude.{List, [], ◌∷◌, Ok}
use Rattle.ob_syntax.specs.Operators.{Outcome, negated, inverted, combined}
use Rattle.pra_list.specs.Results.{◌>>=◌}
use Rattle.ob_syntax.specs.declared.checked.Checked.{Checked}
use Rattle.ob_syntax.specs.declared.checked.Value.{Value}
use Rattle.ob_syntax.specs.declared.checked.Value.TheVariants.{Number, Truth}
use Rattle.ob_syntax.specs.declared.checked.RExpr.{RExpr, RExpr-F, fold-RExpr}
use Rattle.ob_syntax.specs.declared.checked.RStep.{RStep, RStep-F, fold-RStep}
use Rattle.ob_syntax.specs.declared.checked.RVar.{RVar, RVar-F, fold-RVar}
use Rattle.ob_mean.specs.declared.store.LiveCall.{LiveCall}
use Rattle.ob_mean.specs.Store.{Store, read}
use Rattle.ob_mean.specs.Designators.{shape_of, start_of, Selector, Field, Element, Located}
use Rattle.ob_mean.specs.Designators.{designated}

-- The meaning of an expression, by the live calls and the store.
abbrev pub Evaluation : Type 0
Evaluation = List LiveCall → Store → Outcome

-- The meaning of a selector.
abbrev pub Selecting : Type 0
Selecting = List LiveCall → Store → Selector

-- The meaning of a variable: where it is, and what it holds until something is assigned to it.
pub record Designation : Type 0 where
  pub location : List LiveCall → Store → Located
  pub start : Value

abbrev pub at_store : List LiveCall → Store → List Selecting → List Selector
at_store calls s [] = []
at_store calls s (f ∷ fs) = f calls s ∷ at_store calls s fs

-- The value of a variable is what the store has at its location.
abbrev pub content : Designation → Evaluation
content variable calls s = variable.location calls s >>= λ l. Ok (read s variable.start l)

abbrev pub expr_step : RExpr-F Evaluation Selecting Designation → Evaluation
expr_step (RExpr-F.Number n) calls s = Ok (Number n)
expr_step (RExpr-F.Truth b) calls s = Ok (Truth b)
expr_step (RExpr-F.Var variable) calls s = content variable calls s
expr_step (RExpr-F.Negate x) calls s = x calls s >>= λ v. Ok (negated v)
expr_step (RExpr-F.Not x) calls s = x calls s >>= λ v. Ok (inverted v)
expr_step (RExpr-F.Binary op x y) calls s = combined op (x calls s) (y calls s)

abbrev pub selector_step : RStep-F Evaluation Selecting Designation → Selecting
selector_step (RStep-F.Field k) calls s = Field k
selector_step (RStep-F.Index x) calls s = Element (x calls s)

abbrev pub variable_step : Checked → RVar-F Evaluation Selecting Designation → Designation
variable_step program v = record {
  location = λ calls s. designated program calls v.root (at_store calls s v.steps);
  start = start_of (shape_of program.types v.type_id);
}

-- The value of an expression.
abbrev pub value : Checked → RExpr → Evaluation
value program =
    fold-RExpr Evaluation Selecting Designation expr_step selector_step (variable_step program)

abbrev pub selector : Checked → RStep → Selecting
selector program =
    fold-RStep Evaluation Selecting Designation expr_step selector_step (variable_step program)

abbrev pub designation : Checked → RVar → Designation
designation program =
    fold-RVar Evaluation Selecting Designation expr_step selector_step (variable_step program)

-- The location that a variable names.
abbrev pub location : Checked → RVar → List LiveCall → Store → Located
location program v = (designation program v).location
