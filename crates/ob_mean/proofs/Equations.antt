-- What each form of expression, variable and statement means, as an equation.
use Rattle.std.proofs.Common.{◌≡◌, ℕ, ℤ, Bool, List, [], ◌∷◌, map, Ok, refl, sym, ap, ◌∙◌}
use Rattle.pra_base.specs.declared.ids.ProcId.{ProcId}
use Rattle.pra_base.specs.declared.event.OutEvent.TheVariants as event
use Rattle.ob_syntax.specs.declared.checked.Value.TheVariants.{Number, Truth}
use Rattle.ob_syntax.specs.declared.checked.RArg.{RArg}
use Rattle.ob_syntax.specs.declared.checked.RStep.TheVariants as step
use Rattle.ob_syntax.specs.declared.checked.RStmt.TheVariants as t
use Rattle.ob_syntax.specs.Operators.{number, negated, inverted, combined}
use Rattle.pra_list.specs.Results.{◌>>=◌}
use Rattle.ob_syntax.specs.declared.checked.Checked.{Checked}
use Rattle.ob_syntax.specs.declared.checked.ROp.{ROp}
use Rattle.ob_syntax.specs.declared.checked.RExpr.{RExpr, RExpr-F, roll-RExpr, map-RExpr}
use Rattle.ob_syntax.specs.declared.checked.RExpr.{fold-roll-RExpr}
use Rattle.ob_syntax.specs.declared.checked.RExpr.TheVariants as x
use Rattle.ob_syntax.specs.declared.checked.RStep.{RStep, RStep-F, roll-RStep, map-RStep}
use Rattle.ob_syntax.specs.declared.checked.RStep.{fold-roll-RStep}
use Rattle.ob_syntax.specs.declared.checked.RVar.{RVar, fold_out-RVar}
use Rattle.ob_syntax.specs.declared.checked.RStmt.{RStmt, RStmt-F, roll-RStmt, fold-roll-RStmt}
use Rattle.ob_syntax.specs.declared.checked.RStmt.{map-RStmt}
use Rattle.ob_syntax.specs.declared.checked.RArm.{RArm, RArm-F, roll-RArm, fold-roll-RArm}
use Rattle.ob_mean.specs.declared.store.LiveCall.{LiveCall}
use Rattle.ob_mean.specs.Store.{Store, read}
use Rattle.ob_mean.specs.Designators.{shape_of, start_of, Field, Element, designated}
use Rattle.ob_mean.specs.Expressions.{Evaluation, Selecting, Designation, at_store, expr_step}
use Rattle.ob_mean.specs.Expressions.{selector_step, variable_step, value, selector, designation}
use Rattle.ob_mean.specs.Expressions.{location}
use Rattle.ob_mean.specs.Statements.{State, Normal, Run, then_do, with, store_at, written, read_to}
use Rattle.ob_mean.specs.Statements.{while_turns, repeat_turns, Around, Execution, Arm, in_turn}
use Rattle.ob_mean.specs.Statements.{on_state, chosen, arguments, stmt_step, arm_step, arm_of, exec}
use Rattle.ob_mean.specs.Statements.{exec_all}

module _ (program : Checked) where
  value_roll : (e : RExpr-F RExpr RStep RVar) → value program (roll-RExpr e) ≡
      expr_step (map-RExpr RExpr RStep RVar Evaluation Selecting Designation (value program)
      (selector program) (designation program) e)
  value_roll = fold-roll-RExpr Evaluation Selecting Designation expr_step selector_step
      (variable_step program)

  pub value-Var : (v : RVar) (calls : List LiveCall) (s : Store) → value program (x.Var v) calls s ≡
      (location program v calls s >>= λ l. Ok (read s (designation program v).start l))
  value-Var v calls s = ap (λ e. value program e calls s) (sym (x.rolls-Var v))
      ∙ ap (λ f. f calls s) (value_roll (RExpr-F.Var v))

  pub value-Negate : (e : RExpr) (calls : List LiveCall) (s : Store) →
      value program (x.Negate e) calls s ≡ (value program e calls s >>= λ v. Ok (negated v))
  value-Negate e calls s = ap (λ z. value program z calls s) (sym (x.rolls-Negate e))
      ∙ ap (λ f. f calls s) (value_roll (RExpr-F.Negate e))

  pub value-Not : (e : RExpr) (calls : List LiveCall) (s : Store) →
      value program (x.Not e) calls s ≡ (value program e calls s >>= λ v. Ok (inverted v))
  value-Not e calls s = ap (λ z. value program z calls s) (sym (x.rolls-Not e))
      ∙ ap (λ f. f calls s) (value_roll (RExpr-F.Not e))

  pub value-Binary : (op : ROp) (a b : RExpr) (calls : List LiveCall) (s : Store) →
      value program (x.Binary op a b) calls s ≡ combined op (value program a calls s)
      (value program b calls s)
  value-Binary op a b calls s = ap (λ z. value program z calls s) (sym (x.rolls-Binary op a b))
      ∙ ap (λ f. f calls s) (value_roll (RExpr-F.Binary op a b))

  pub designation-is : (v : RVar) → designation program v ≡ (record {
    location = λ calls s. designated program calls v.root
        (at_store calls s (map (selector program) v.steps));
    start = start_of (shape_of program.types v.type_id);
  })
  designation-is v = fold_out-RVar Evaluation Selecting Designation expr_step selector_step
      (variable_step program) v

  pub exec_roll : (y : RStmt-F RStmt RArm) → exec program (roll-RStmt y) ≡ stmt_step program
      (map-RStmt RStmt RArm Execution Arm (exec program) (arm_of program) y)
  exec_roll = fold-roll-RStmt Execution Arm (stmt_step program) (arm_step program)

  pub arm_of_roll : (y : RArm-F RStmt RArm) → arm_of program (roll-RArm y) ≡
      (value program y.test, map (exec program) y.body)
  arm_of_roll = fold-roll-RArm Execution Arm (stmt_step program) (arm_step program)

  pub value-Number : (n : ℤ) (calls : List LiveCall) (s : Store) →
      value program (x.Number n) calls s ≡ Ok (Number n)
  value-Number n calls s = ap (λ z. value program z calls s) (sym (x.rolls-Number n))
      ∙ ap (λ f. f calls s) (value_roll (RExpr-F.Number n))

  pub value-Truth : (b : Bool) (calls : List LiveCall) (s : Store) →
      value program (x.Truth b) calls s ≡ Ok (Truth b)
  value-Truth b calls s = ap (λ z. value program z calls s) (sym (x.rolls-Truth b))
      ∙ ap (λ f. f calls s) (value_roll (RExpr-F.Truth b))

  selector_roll : (e : RStep-F RExpr RStep RVar) → selector program (roll-RStep e) ≡
      selector_step (map-RStep RExpr RStep RVar Evaluation Selecting Designation (value program)
      (selector program) (designation program) e)
  selector_roll = fold-roll-RStep Evaluation Selecting Designation expr_step selector_step
      (variable_step program)

  pub selector-Field : (k : ℕ) (calls : List LiveCall) (s : Store) →
      selector program (step.Field k) calls s ≡ Field k
  selector-Field k calls s = ap (λ z. selector program z calls s) (sym (step.rolls-Field k))
      ∙ ap (λ f. f calls s) (selector_roll (RStep-F.Field k))

  pub selector-Index : (e : RExpr) (calls : List LiveCall) (s : Store) →
      selector program (step.Index e) calls s ≡ Element (value program e calls s)
  selector-Index e calls s = ap (λ z. selector program z calls s) (sym (step.rolls-Index e))
      ∙ ap (λ f. f calls s) (selector_roll (RStep-F.Index e))

  -- statements in a sequence
  pub in_turn-all : (ts : List RStmt) (a : Around) → in_turn (map (exec program) ts) a ≡
      exec_all program ts a
  in_turn-all [] a = refl
  in_turn-all (first ∷ ts) a = ap {B = Run} (λ (k : Run) s. then_do (exec program first a s) k)
      (in_turn-all ts a)

  pub arm-is : (test : RExpr) (body : List RStmt) →
      arm_of program (roll-RArm (record { test = test; body = body })) ≡
      (value program test, map (exec program) body)
  arm-is test body = arm_of_roll (record { test = test; body = body })

  pub exec-Assign : (v : RVar) (e : RExpr) (a : Around) (s : State) →
      exec program (t.Assign v e) a s ≡ with (location program v a.calls s.store) s
      (λ l. with (value program e a.calls s.store) s (λ y. Normal (store_at s l y)))
  exec-Assign v e a s = ap (λ z. exec program z a s) (sym (t.rolls-Assign v e)) ∙ ap (λ f. f a s)
      (exec_roll (RStmt-F.Assign v e))

  pub exec-If : (arms : List RArm) (other : List RStmt) (a : Around) (s : State) →
      exec program (t.If arms other) a s ≡ chosen (map (arm_of program) arms)
      (map (exec program) other) a s
  exec-If arms other a s = ap (λ z. exec program z a s) (sym (t.rolls-If arms other))
      ∙ ap (λ f. f a s) (exec_roll (RStmt-F.If arms other))

  pub exec-While : (test : RExpr) (body : List RStmt) (a : Around) (s : State) →
      exec program (t.While test body) a s ≡ while_turns a.turns (on_state (value program test) a)
      (exec_all program body a) s
  exec-While test body a s =
      ap (λ z. exec program z a s) (sym (t.rolls-While test body)) ∙ ap (λ f. f a s)
      (exec_roll (RStmt-F.While test body))
      ∙ ap (λ (r : Run). while_turns a.turns (on_state (value program test) a) r s)
      (in_turn-all body a)

  pub exec-Repeat : (body : List RStmt) (test : RExpr) (a : Around) (s : State) →
      exec program (t.Repeat body test) a s ≡ repeat_turns a.turns (exec_all program body a)
      (on_state (value program test) a) s
  exec-Repeat body test a s =
      ap (λ z. exec program z a s) (sym (t.rolls-Repeat body test)) ∙ ap (λ f. f a s)
      (exec_roll (RStmt-F.Repeat body test))
      ∙ ap (λ (r : Run). repeat_turns a.turns r (on_state (value program test) a) s)
      (in_turn-all body a)

  pub exec-Call : (proc : ProcId) (args : List RArg) (a : Around) (s : State) →
      exec program (t.Call proc args) a s ≡ with (arguments program a.calls s.store args) s
      (λ xs. a.call proc.0 xs s)
  exec-Call proc args a s = ap (λ z. exec program z a s) (sym (t.rolls-Call proc args))
      ∙ ap (λ f. f a s) (exec_roll (RStmt-F.Call proc args))

  pub exec-Read : (v : RVar) (a : Around) (s : State) → exec program (t.Read v) a s ≡
      with (location program v a.calls s.store) s (λ l. read_to s.input l s)
  exec-Read v a s = ap (λ z. exec program z a s) (sym (t.rolls-Read v)) ∙ ap (λ f. f a s)
      (exec_roll (RStmt-F.Read v))

  pub exec-Write : (e : RExpr) (a : Around) (s : State) → exec program (t.Write e) a s ≡
      with (value program e a.calls s.store) s (λ y. Normal (written s (event.Number (number y))))
  exec-Write e a s = ap (λ z. exec program z a s) (sym (t.rolls-Write e)) ∙ ap (λ f. f a s)
      (exec_roll (RStmt-F.Write e))

  pub exec-WriteLine : (a : Around) (s : State) → exec program t.WriteLine a s ≡
      Normal (written s event.Line)
  exec-WriteLine a s = ap (λ z. exec program z a s) (sym t.rolls-WriteLine) ∙ ap (λ f. f a s)
      (exec_roll RStmt-F.WriteLine)
