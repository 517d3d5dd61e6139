-- Where a statement breaks a rule at a place, whatever else is broken in it.
use Rattle.std.specs.Prelude.{◌≡◌, ℕ, ◌⊎◌, Bool, true, false, List, [], ◌∷◌, length, Option, Some}
use Rattle.std.specs.Prelude.{None, Ok, Err}
use Rattle.pra_list.specs.Among.{Among}
use Rattle.ob_syntax.specs.declared.checked.Meaning.{Meaning}
use Rattle.ob_syntax.specs.declared.checked.Meaning.TheVariants.{Procedure, Standard}
use Rattle.ob_syntax.specs.declared.checked.Param.{Param}
use Rattle.ob_syntax.specs.declared.checked.RVar.{RVar, out-RVar}
use Rattle.ob_syntax.specs.declared.checked.Standard.TheVariants.{Read, Write, WriteLine}
use Rattle.ob_syntax.specs.declared.tree.Arm.{Arm, out-Arm}
use Rattle.ob_syntax.specs.declared.tree.Designator.{Designator, out-Designator}
use Rattle.ob_syntax.specs.declared.tree.Expr.{Expr, out-Expr}
use Rattle.ob_syntax.specs.declared.tree.Stmt.{Stmt, out-Stmt}
use Rattle.ob_syntax.specs.declared.tree.StmtForm.{StmtForm, StmtForm-F, out-StmtForm}
use Rattle.ob_syntax.specs.Expressions.{integer, boolean, of_type, expression, name_with_selectors}
use Rattle.ob_syntax.specs.Names.{Fault, Place, meaning, name_at, used}
use Rattle.ob_syntax.specs.Statements.{target, assigned, argument, arguments, counted, parameters}
use Rattle.ob_syntax.specs.Statements.{called}
use Rattle.ob_first.specs.Faults.{Fails, BothFail, AnyOf, NameFails}
use Rattle.ob_first.specs.InExpressions.{bare, SelectorsFail, InExpression, InSelector}
use Rattle.pra_list.specs.Results.{◌>>=◌}

-- ---- assignments

abbrev pub TargetFails : Place → Designator → Fault → Type 0
TargetFails p d f =
    let name = (out-Designator d).name in
    NameFails p name (target p (bare name)) f ⊎
    (AnyOf (λ s g. InSelector p s g) (out-Designator d).selectors f ⊎
    ((v : RVar) × ((used p name >>= target p (bare name)) ≡ Ok v) ×
    SelectorsFail p (out-RVar v).type_id (out-Designator d).selectors f))

-- the sides are tested together
abbrev pub AssignmentFails : Place → ℕ → Designator → Expr → Fault → Type 0
AssignmentFails p last d e f =
    TargetFails p d f ⊎ (InExpression p e f ⊎
    BothFail (used p (name_with_selectors d).name >>= target p (name_with_selectors d))
    ((expression e).judge p) (assigned last) f)

-- ---- conditions

abbrev pub InCondition : Place → Expr → Fault → Type 0
InCondition p e f =
    InExpression p e f ⊎
    Fails ((expression e).judge p) (of_type 19 boolean (out-Expr e).span.last) f

-- ---- calls

abbrev pub integer_parameter : Bool → Param
integer_parameter by_var = record { by_var = by_var; type_id = integer; addressed = false }

-- the parameters of what is called, where it is a procedure
abbrev pub wanted : Place → Meaning → Option (List Param)
wanted p (Procedure id) = Some (parameters p id)
wanted p (Standard Read) = Some (integer_parameter true ∷ [])
wanted p (Standard Write) = Some (integer_parameter false ∷ [])
wanted p (Standard WriteLine) = Some []
wanted p m = None

-- an argument that has a reading is not as its parameter wants it; one beyond the last parameter
-- may be anything
abbrev pub ArgumentsFail : Place → List Param → List Expr → Fault → Type 0
ArgumentsFail p [] es f = ⊥
ArgumentsFail p (param ∷ params) [] f = ⊥
ArgumentsFail p (param ∷ params) (e ∷ es) f =
    Fails ((expression e).judge p) (λ x. argument p param e) f ⊎ ArgumentsFail p params es f

-- the arguments are tested by their kinds, and if no test fails, by their number
abbrev pub CallFails : Place → ℕ → List Param → List Expr → Fault → Type 0
CallFails p last params es f =
    ArgumentsFail p params es f ⊎
    Fails (arguments p [] params es) (counted last (length params) (length es)) f

-- The name is not visible or out of reach, or it means no procedure; or an argument breaks a rule;
-- or the call of a procedure does.
abbrev pub InCall : Place → ℕ → ℕ → List Expr → Fault → Type 0
InCall p last name es f =
    (used p name ≡ Err f) ⊎
    (((m : Meaning) × (meaning p (name_at p name) ≡ Some m) × (wanted p m ≡ None) ×
    (called p last name m es ≡ Err f)) ⊎
    (AnyOf (λ e g. InExpression p e g) es f ⊎
    ((m : Meaning) × (params : List Param) × (used p name ≡ Ok m) × (wanted p m ≡ Some params) ×
    CallFails p last params es f)))

-- ---- statements

abbrev pub Layer : Type 0
Layer = StmtForm-F StmtForm Arm Stmt

-- what a statement breaks outside the statements in it
abbrev pub StatementFails : Place → ℕ → Layer → Fault → Type 0
StatementFails p last (StmtForm-F.Assign d e) f = AssignmentFails p last d e f
StatementFails p last (StmtForm-F.Call name es) f = InCall p last name es f
StatementFails p last (StmtForm-F.If arms other) f = ⊥
StatementFails p last (StmtForm-F.While test body) f = InCondition p test f
StatementFails p last (StmtForm-F.Repeat body test) f = InCondition p test f

abbrev pub arms_in : Layer → List Arm
arms_in (StmtForm-F.If arms other) = arms
arms_in _ = []

-- the statements in a statement that are in none of its arms
abbrev pub statements_in : Layer → List Stmt
statements_in (StmtForm-F.If arms other) = other
statements_in (StmtForm-F.While test body) = body
statements_in (StmtForm-F.Repeat body test) = body
statements_in _ = []

abbrev pub layer : Stmt → Layer
layer s = out-StmtForm (out-Stmt s).form

mutual
  pub data InStatement (p : Place) : Stmt → Fault → Type 0 where
    itself : (s : Stmt) (f : Fault) → StatementFails p (out-Stmt s).span.last (layer s) f →
        InStatement p s f
    in_arm : (s : Stmt) (f : Fault) (a : Arm) → Among a (arms_in (layer s)) → InArm p a f →
        InStatement p s f
    in_statement : (s : Stmt) (f : Fault) (t : Stmt) → Among t (statements_in (layer s)) →
        InStatement p t f → InStatement p s f

  pub data InArm (p : Place) : Arm → Fault → Type 0 where
    test : (a : Arm) (f : Fault) → InCondition p (out-Arm a).test f → InArm p a f
    body : (a : Arm) (f : Fault) (t : Stmt) → Among t (out-Arm a).body → InStatement p t f →
        InArm p a f
