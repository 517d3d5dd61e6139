-- The rules of statements: what a statement of the source is read as at a place.
use Rattle.std.specs.Prelude.{ℕ, Bool, true, false, List, [], ◌∷◌, ◌++◌, length, Option, Some, None}
use Rattle.std.specs.Prelude.{Ok, Err, slice_get, nat_eq, if◌then◌else◌}
use Rattle.ob_syntax.specs.declared.tree.Arm.{Arm, Arm-F, fold-Arm}
use Rattle.ob_syntax.specs.declared.tree.Expr.{Expr, out-Expr}
use Rattle.ob_syntax.specs.declared.tree.Factor.{out-Factor}
use Rattle.ob_syntax.specs.declared.tree.FactorForm.{FactorForm, FactorForm-F, out-FactorForm}
use Rattle.ob_syntax.specs.declared.tree.NextFactor.{NextFactor}
use Rattle.ob_syntax.specs.declared.tree.NextTerm.{NextTerm}
use Rattle.ob_syntax.specs.declared.tree.Relation.{Relation}
use Rattle.ob_syntax.specs.declared.tree.SimpleExpr.{SimpleExpr, out-SimpleExpr}
use Rattle.ob_syntax.specs.declared.tree.Stmt.{Stmt, Stmt-F, fold-Stmt}
use Rattle.ob_syntax.specs.declared.tree.StmtForm.{StmtForm-F}
use Rattle.ob_syntax.specs.declared.tree.Term.{Term, out-Term}
use Rattle.ob_syntax.specs.declared.token.Kind.{Kind}
use Rattle.ob_syntax.specs.declared.checked.Meaning.{Meaning}
use Rattle.ob_syntax.specs.declared.checked.Meaning.TheVariants.{Variable, Procedure, Standard}
use Rattle.ob_syntax.specs.declared.checked.Standard.{Standard as StandardName}
use Rattle.ob_syntax.specs.declared.checked.Standard.TheVariants.{Read, Write, WriteLine}
use Rattle.ob_syntax.specs.declared.checked.Param.{Param}
use Rattle.ob_syntax.specs.declared.checked.RArg.{RArg}
use Rattle.ob_syntax.specs.declared.checked.RArg.TheVariants.{Value, Lent}
use Rattle.ob_syntax.specs.declared.checked.RArm.{RArm, roll-RArm}
use Rattle.ob_syntax.specs.declared.checked.RExpr.{RExpr, RExpr-F, out-RExpr}
use Rattle.ob_syntax.specs.declared.checked.RStmt.{RStmt}
use Rattle.ob_syntax.specs.declared.checked.RStmt.TheVariants as s
use Rattle.ob_syntax.specs.declared.checked.RVar.{RVar, out-RVar}
use Rattle.ob_syntax.specs.declared.checked.Typed.{Typed}
use Rattle.ob_syntax.specs.Expressions.{expression, name_with_selectors, selected, variable}
use Rattle.ob_syntax.specs.Expressions.{of_type, are_alike, integer, boolean, Selected}
use Rattle.ob_syntax.specs.Names.{Judged, Place, used}
use Rattle.pra_list.specs.Results.{◌>>=◌}

-- rule 10: the name of an assignment's target is not a variable or parameter
abbrev pub target : Place → Selected → Meaning → Judged RVar
target p d (Variable owner root type_id) = do
  steps ← selected p [] type_id d.selectors
  Ok (variable root steps)
target p d m = Err (10, d.name)

-- rule 18: the sides of `:=` are not both INTEGER or both BOOLEAN
abbrev pub assigned : ℕ → RVar → Typed → Judged RStmt
assigned token v e =
    if are_alike (out-RVar v).type_id e.type_id then Ok (s.Assign v e.expr) else Err (18, token)

-- rule 19: the condition of IF, ELSIF, WHILE or UNTIL is not BOOLEAN
abbrev pub condition : Place → Expr → Judged RExpr
condition p e = do
  test ← (expression e).judge p
  of_type 19 boolean (out-Expr e).span.last test

-- ---- calls

-- nothing but a name with its selectors
abbrev pub is_designator : Expr → Bool
is_designator e = no_relation (out-Expr e).relation (out-Expr e).left
  where
    is_name : FactorForm → Bool
    is_name f = elim (out-FactorForm f) [
      | FactorForm-F.Name d ↦ true
      | FactorForm-F.Number n ↦ false
      | FactorForm-F.Paren inner ↦ false
      | FactorForm-F.Not inner ↦ false
    ]

    one_factor : List NextFactor → Term → Bool
    one_factor [] t = is_name (out-Factor (out-Term t).first).form
    one_factor (f ∷ fs) t = false

    one_term : List NextTerm → SimpleExpr → Bool
    one_term [] left =
        one_factor (out-Term (out-SimpleExpr left).first).rest (out-SimpleExpr left).first
    one_term (t ∷ ts) left = false

    no_sign : Option Kind → SimpleExpr → Bool
    no_sign None left = one_term (out-SimpleExpr left).rest left
    no_sign (Some k) left = false

    no_relation : Option Relation → SimpleExpr → Bool
    no_relation None left = no_sign (out-SimpleExpr left).sign left
    no_relation (Some r) left = false

-- the variable that an expression is, if it is one of the type that is wanted
abbrev pub lent_variable : ℕ → ℕ → Typed → Judged RVar
lent_variable type_id token e = elim (out-RExpr e.expr) [
  | RExpr-F.Var v ↦ if nat_eq e.type_id type_id then Ok v else Err (23, token)
  | RExpr-F.Number n ↦ Err (23, token)
  | RExpr-F.Truth b ↦ Err (23, token)
  | RExpr-F.Negate inner ↦ Err (23, token)
  | RExpr-F.Not inner ↦ Err (23, token)
  | RExpr-F.Binary op left right ↦ Err (23, token)
]

-- rule 23: an argument for a VAR parameter is not a variable or parameter, with its selectors, of
-- the identical type
abbrev pub lent : Place → ℕ → Expr → Judged RVar
lent p type_id e = do
  typed ← (expression e).judge p
  if is_designator e then lent_variable type_id (out-Expr e).span.last typed
      else Err (23, (out-Expr e).span.last)

-- rule 22: an argument for a value parameter has another type
abbrev pub passed : Place → ℕ → Expr → Judged RExpr
passed p type_id e = do
  typed ← (expression e).judge p
  of_type 22 type_id (out-Expr e).span.last typed

abbrev pub argument : Place → Param → Expr → Judged RArg
argument p param e =
    if param.by_var then lent p param.type_id e >>= (λ v. Ok (Lent v))
    else passed p param.type_id e >>= (λ x. Ok (Value x))

-- arguments beyond the last parameter are tested as expressions only
abbrev pub beyond : Place → List Expr → Judged (Unit {0})
beyond p [] = Ok tt
beyond p (e ∷ es) = do
  typed ← (expression e).judge p
  beyond p es

abbrev pub arguments : Place → List RArg → List Param → List Expr → Judged (List RArg)
arguments p done params [] = Ok done
arguments p done (param ∷ params) (e ∷ es) = do
  one ← argument p param e
  arguments p (done ++ one ∷ []) params es
arguments p done [] (e ∷ es) = do
  typed ← (expression e).judge p
  arguments p done [] es

-- rule 20: a call has another number of arguments than parameters
abbrev pub counted : {A : Type 0} → ℕ → ℕ → ℕ → A → Judged A
counted token wanted given call = if nat_eq wanted given then Ok call else Err (20, token)

abbrev pub parameters : Place → ℕ → List Param
parameters p id = the (slice_get p.headings id)
  where
    the : Option (List Param) → List Param
    the (Some params) = params
    the None = []

abbrev pub standard_call : Place → ℕ → StandardName → List Expr → Judged RStmt
standard_call p last Read [] = Err (20, last)
standard_call p last Read (e ∷ es) = do
  v ← lent p integer e
  none ← beyond p es
  counted last 0 (length es) (s.Read v)
standard_call p last Write [] = Err (20, last)
standard_call p last Write (e ∷ es) = do
  x ← passed p integer e
  none ← beyond p es
  counted last 0 (length es) (s.Write x)
standard_call p last WriteLine es = do
  none ← beyond p es
  counted last 0 (length es) s.WriteLine

abbrev pub procedure_call : Place → ℕ → ℕ → List Expr → Judged RStmt
procedure_call p last id es = do
  args ← arguments p [] (parameters p id) es
  counted last (length (parameters p id)) (length es) (s.Call (record { 0 = id }) args)

-- rule 9: the name of a call is not a procedure
abbrev pub called : Place → ℕ → ℕ → Meaning → List Expr → Judged RStmt
called p last name (Procedure id) es = procedure_call p last id es
called p last name (Standard which) es = standard_call p last which es
called p last name m es = Err (9, name)

-- ---- each production, from what its parts give

abbrev pub Judge : Type 0 → Type 0
Judge A = Place → Judged A

-- one after another, behind those that are done
abbrev pub each : {A : Type 0} → Place → List A → List (Judge A) → Judged (List A)
each p done [] = Ok done
each p done (judge ∷ judges) = do
  one ← judge p
  each p (done ++ one ∷ []) judges

abbrev pub StmtResult : Type 0
StmtResult = ℕ → Judge RStmt

abbrev pub stmt_form : StmtForm-F StmtResult (Judge RArm) (Judge RStmt) → StmtResult
stmt_form (StmtForm-F.Assign d e) last p = do
  m ← used p (name_with_selectors d).name
  v ← target p (name_with_selectors d) m
  value ← (expression e).judge p
  assigned last v value
stmt_form (StmtForm-F.Call name args) last p = do
  m ← used p name
  called p last name m args
stmt_form (StmtForm-F.If arms other) last p = do
  choices ← each p [] arms
  otherwise ← each p [] other
  Ok (s.If choices otherwise)
stmt_form (StmtForm-F.While test body) last p = do
  c ← condition p test
  turn ← each p [] body
  Ok (s.While c turn)
stmt_form (StmtForm-F.Repeat body test) last p = do
  turn ← each p [] body
  c ← condition p test
  Ok (s.Repeat turn c)

abbrev pub arm_step : Arm-F StmtResult (Judge RArm) (Judge RStmt) → Judge RArm
arm_step arm p = do
  c ← condition p arm.test
  body ← each p [] arm.body
  Ok (roll-RArm (record { test = c; body = body }))

abbrev pub stmt_step : Stmt-F StmtResult (Judge RArm) (Judge RStmt) → Judge RStmt
stmt_step t = t.form t.span.last

abbrev pub statement : Stmt → Judge RStmt
statement = fold-Stmt StmtResult (Judge RArm) (Judge RStmt) stmt_form arm_step stmt_step

abbrev pub arm : Arm → Judge RArm
arm = fold-Arm StmtResult (Judge RArm) (Judge RStmt) stmt_form arm_step stmt_step
