-- Each statement of a tree is read as a typed one, in a place that fits the module.
use Rattle.std.proofs.Common.{◌≡◌, ℕ, true, List, [], ◌∷◌, map, refl, sym, subst}
use Rattle.std.specs.Prelude.{Ok}
use Rattle.pra_list.proofs.Results.{came_of}
use Rattle.pra_list.specs.Results.{◌>>=◌}
use Rattle.ob_syntax.specs.declared.checked.Checked.{Checked}
use Rattle.ob_syntax.specs.declared.checked.RArm.{RArm, roll-RArm}
use Rattle.ob_syntax.specs.declared.checked.RStmt.{RStmt}
use Rattle.ob_syntax.specs.declared.checked.RStmt.TheVariants as s
use Rattle.ob_syntax.specs.declared.tree.Arm.{Arm, roll-Arm, fold-roll-Arm}
use Rattle.ob_syntax.specs.declared.tree.Expr.{Expr}
use Rattle.ob_syntax.specs.declared.tree.Span.{Span}
use Rattle.ob_syntax.specs.declared.tree.Stmt.{Stmt, roll-Stmt, fold-roll-Stmt, ind-Stmt}
use Rattle.ob_syntax.specs.declared.tree.StmtForm.{StmtForm, StmtForm-F, roll-StmtForm}
use Rattle.ob_syntax.specs.declared.tree.StmtForm.{map-StmtForm, fold-StmtForm, fold-roll-StmtForm}
use Rattle.ob_syntax.specs.Names.{Place, used}
use Rattle.ob_syntax.specs.Statements.{condition, called, Judge, each, StmtResult, stmt_form}
use Rattle.ob_syntax.specs.Statements.{arm_step, stmt_step, statement, arm}
use Rattle.vc_typed.specs.Fitting.{Fits}
use Rattle.vc_typed.specs.TypedStatements.{is_typed, is_typed_arm, are_typed}
use Rattle.vc_typed.proofs.Bindings.{ok_same}
use Rattle.vc_typed.proofs.ExpressionTypes.{used_there}
use Rattle.vc_typed.proofs.StatementTypes.{GoodJudge, GoodArm, AllJudges, AllArms, assignment_typed}
use Rattle.vc_typed.proofs.StatementTypes.{condition_typed, called_typed, each_typed}
use Rattle.vc_typed.proofs.StatementTypes.{each_arm_typed, if_typed, while_typed, repeat_typed}
use Rattle.vc_typed.proofs.StatementTypes.{arm_typed}

abbrev form_of : StmtForm → StmtResult
form_of = fold-StmtForm StmtResult (Judge RArm) (Judge RStmt) stmt_form arm_step stmt_step

module _ (program : Checked) where
  abbrev OfForm : StmtForm → Type 0
  OfForm f = (last : ℕ) → GoodJudge program (form_of f last)

  abbrev OfArm : Arm → Type 0
  OfArm a = GoodArm program (arm a)

  abbrev OfStmt : Stmt → Type 0
  OfStmt x = GoodJudge program (statement x)

  judges_good : (xs : List ((x : Stmt) × OfStmt x)) →
      AllJudges program (map statement (map (λ x. x.0) xs))
  judges_good [] = tt
  judges_good (x ∷ xs) = (x.1, judges_good xs)

  arms_good : (xs : List ((x : Arm) × OfArm x)) → AllArms program (map arm (map (λ x. x.0) xs))
  arms_good [] = tt
  arms_good (x ∷ xs) = (x.1, arms_good xs)

  form_from : (x : StmtForm-F StmtForm Arm Stmt) (r : StmtResult) → form_of (roll-StmtForm x) ≡ r →
      ((last : ℕ) → GoodJudge program (r last)) → OfForm (roll-StmtForm x)
  form_from x r is good last = subst (λ (z : StmtResult). GoodJudge program (z last)) (sym is)
      (good last)

  abbrev Layer : Type 0
  Layer = StmtForm-F ((x : StmtForm) × OfForm x) ((x : Arm) × OfArm x) ((x : Stmt) × OfStmt x)

  abbrev bare : Layer → StmtForm-F StmtForm Arm Stmt
  bare = map-StmtForm ((x : StmtForm) × OfForm x) ((x : Arm) × OfArm x) ((x : Stmt) × OfStmt x)
      StmtForm Arm Stmt (λ x. x.0) (λ x. x.0) (λ x. x.0)

  form_case : (x : Layer) → OfForm (roll-StmtForm (bare x))
  form_case (StmtForm-F.Assign d e) =
      form_from _ _ (fold-roll-StmtForm StmtResult (Judge RArm) (Judge RStmt) stmt_form arm_step
      stmt_step (StmtForm-F.Assign d e))
      (λ last. record { gives = λ p fits z is. assignment_typed program p fits last d e z is })
  form_case (StmtForm-F.Call name es) =
      form_from _ _ (fold-roll-StmtForm StmtResult (Judge RArm) (Judge RStmt) stmt_form arm_step
      stmt_step (StmtForm-F.Call name es))
      (λ last. record {
        gives = λ p fits z is.
            let of = came_of (used p name) (λ m. called p last name m es) z is in
            called_typed program p fits last name of.0 es z
            (used_there program p fits name of.0 of.1) of.2;
      })
  form_case (StmtForm-F.If arms other) =
      form_from _ _ (fold-roll-StmtForm StmtResult (Judge RArm) (Judge RStmt) stmt_form arm_step
      stmt_step (StmtForm-F.If (map (λ x. x.0) arms) (map (λ x. x.0) other)))
      (λ last. record {
        gives = λ p fits z is.
            let choices = map arm (map (λ x. x.0) arms) in
            let os = map statement (map (λ x. x.0) other) in
            let one = came_of (each p [] choices)
            (λ first. each p [] os >>= λ otherwise. Ok (s.If first otherwise)) z is in
            let two = came_of (each p [] os) (λ otherwise. Ok (s.If one.0 otherwise)) z one.2 in
            subst (λ w. is_typed program p.here w ≡ true) (ok_same (s.If one.0 two.0) z two.2)
            (if_typed program p.here one.0 two.0
            (each_arm_typed program p fits choices [] one.0 (arms_good arms) refl one.1)
            (each_typed program p fits os [] two.0 (judges_good other) refl two.1));
      })
  form_case (StmtForm-F.While test body) =
      form_from _ _ (fold-roll-StmtForm StmtResult (Judge RArm) (Judge RStmt) stmt_form arm_step
      stmt_step (StmtForm-F.While test (map (λ x. x.0) body)))
      (λ last. record {
        gives = λ p fits z is.
            let bs = map statement (map (λ x. x.0) body) in
            let one = came_of (condition p test) (λ c. each p [] bs >>= λ turn. Ok (s.While c turn))
            z is in
            let two = came_of (each p [] bs) (λ turn. Ok (s.While one.0 turn)) z one.2 in
            subst (λ w. is_typed program p.here w ≡ true) (ok_same (s.While one.0 two.0) z two.2)
            (while_typed program p.here one.0 two.0
            (condition_typed program p fits test one.0 one.1)
            (each_typed program p fits bs [] two.0 (judges_good body) refl two.1));
      })
  form_case (StmtForm-F.Repeat body test) =
      form_from _ _ (fold-roll-StmtForm StmtResult (Judge RArm) (Judge RStmt) stmt_form arm_step
      stmt_step (StmtForm-F.Repeat (map (λ x. x.0) body) test))
      (λ last. record {
        gives = λ p fits z is.
            let bs = map statement (map (λ x. x.0) body) in
            let one = came_of (each p [] bs)
            (λ turn. condition p test >>= λ c. Ok (s.Repeat turn c)) z is in
            let two = came_of (condition p test) (λ c. Ok (s.Repeat one.0 c)) z one.2 in
            subst (λ w. is_typed program p.here w ≡ true) (ok_same (s.Repeat one.0 two.0) z two.2)
            (repeat_typed program p.here one.0 two.0
            (condition_typed program p fits test two.0 two.1)
            (each_typed program p fits bs [] one.0 (judges_good body) refl one.1));
      })

  arm_case : (test : Expr) (body : List ((x : Stmt) × OfStmt x)) →
      OfArm (roll-Arm (record { test = test; body = map (λ x. x.0) body }))
  arm_case test body = subst (GoodArm program)
      (sym (fold-roll-Arm StmtResult (Judge RArm) (Judge RStmt) stmt_form arm_step stmt_step _))
      (record {
        gives = λ p fits z is.
            let bs = map statement (map (λ x. x.0) body) in
            let one = came_of (condition p test)
            (λ c. each p [] bs >>= λ turn. Ok (roll-RArm (record { test = c; body = turn }))) z
            is in
            let two = came_of (each p [] bs)
            (λ turn. Ok (roll-RArm (record { test = one.0; body = turn }))) z one.2 in
            subst (λ w. is_typed_arm program p.here w ≡ true)
            (ok_same (roll-RArm (record { test = one.0; body = two.0 })) z two.2)
            (arm_typed program p.here one.0 two.0 (condition_typed program p fits test one.0 one.1)
            (each_typed program p fits bs [] two.0 (judges_good body) refl two.1));
      })

  stmt_case : (span : Span) (f : (x : StmtForm) × OfForm x) →
      OfStmt (roll-Stmt (record { span = span; form = f.0 }))
  stmt_case span f = subst (GoodJudge program)
      (sym (fold-roll-Stmt StmtResult (Judge RArm) (Judge RStmt) stmt_form arm_step stmt_step _))
      (f.1 span.last)

  pub statement_good : (x : Stmt) → GoodJudge program (statement x)
  statement_good = ind-Stmt OfForm OfArm OfStmt
      (λ x y is. subst (λ z. OfForm (roll-StmtForm z)) is (form_case y))
      (λ x y is. subst (λ z. OfArm (roll-Arm z)) is (arm_case y.test y.body))
      (λ x y is. subst (λ z. OfStmt (roll-Stmt z)) is (stmt_case y.span y.form))

  statements_good : (xs : List Stmt) → AllJudges program (map statement xs)
  statements_good [] = tt
  statements_good (x ∷ xs) = (statement_good x, statements_good xs)

  -- the statements of a body
  pub body_typed : (p : Place) → Fits program p → (xs : List Stmt) (ys : List RStmt) →
      each p [] (map statement xs) ≡ Ok ys → are_typed program p.here ys ≡ true
  body_typed p fits xs ys is = each_typed program p fits (map statement xs) [] ys
      (statements_good xs) refl is
