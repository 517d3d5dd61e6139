-- The variables and parameters that typed statements lend whole are declared.
use Rattle.std.proofs.Common.{◌≡◌, ℕ, Bool, true, ◌&&◌, List, [], ◌∷◌, ◌++◌, map, Option, Some}
use Rattle.std.proofs.Common.{None, refl, ap, sym, ◌∙◌, subst}
use Rattle.std.specs.Prelude.{slice_get}
use Rattle.pra_list.proofs.Choices.{and_true}
use Rattle.ob_syntax.specs.declared.checked.Checked.{Checked}
use Rattle.ob_syntax.specs.declared.checked.CheckedProc.{CheckedProc}
use Rattle.ob_syntax.specs.declared.checked.Param.{Param}
use Rattle.ob_syntax.specs.declared.checked.RArg.{RArg}
use Rattle.ob_syntax.specs.declared.checked.RArg.TheVariants.{Value, Lent}
use Rattle.ob_syntax.specs.declared.checked.RArm.{RArm, roll-RArm, fold-roll-RArm}
use Rattle.ob_syntax.specs.declared.checked.RExpr.{RExpr}
use Rattle.ob_syntax.specs.declared.checked.RStep.{RStep}
use Rattle.ob_syntax.specs.declared.checked.RStmt.{RStmt, RStmt-F, roll-RStmt, map-RStmt}
use Rattle.ob_syntax.specs.declared.checked.RStmt.{fold-roll-RStmt, ind-RStmt}
use Rattle.ob_syntax.specs.declared.checked.RVar.{RVar, out-RVar}
use Rattle.ob_syntax.specs.declared.checked.Root.{Root}
use Rattle.ob_syntax.specs.WellFormed.{lent_root, lent_by, joined, lent_step, lent_in_arm, lent_in}
use Rattle.vc_typed.specs.TypedModules.{lent_in_all}
use Rattle.vc_typed.specs.TypedStatements.{all_true, are_passed, is_call, is_typed_step}
use Rattle.vc_typed.specs.TypedStatements.{is_typed_arm_step, is_typed, is_typed_arm, are_typed}
use Rattle.vc_typed.specs.Typing.{is_of, is_declared, leading, variable_typing}
use Rattle.vc_typed.specs.Typing as t
use Rattle.vc_typed.proofs.Equations.{variable_typing-is}
use Rattle.vc_typed.proofs.StatementEquations.{lent_behind}

module _ (program : Checked) (here : ℕ) where
  abbrev pub AllDeclared : List Root → Type 0
  AllDeclared roots = all_true (map (is_declared program here) roots) ≡ true

  declared_append : (xs ys : List Root) → AllDeclared xs → AllDeclared ys → AllDeclared (xs ++ ys)
  declared_append [] ys all more = more
  declared_append (x ∷ xs) ys all more =
      let both = and_true (is_declared program here x)
      (all_true (map (is_declared program here) xs)) all in
      ap (λ b. b && all_true (map (is_declared program here) (xs ++ ys))) both.0
      ∙ declared_append xs ys both.1 more

  -- ---- arguments

  root_declared : (v : RVar) (type_id : ℕ) (steps : List RStep) → (out-RVar v).steps ≡ steps →
      is_of type_id (variable_typing program here v) ≡ true → AllDeclared (lent_root v)
  root_declared v type_id [] is good =
      let typing : is_of type_id
      (t.designated_typing program here (out-RVar v).root [] (out-RVar v).type_id) ≡ true =
      subst (λ (ss : List RStep). is_of type_id
      (t.designated_typing program here (out-RVar v).root (map (leading program here) ss)
      (out-RVar v).type_id) ≡ true) is
      (ap (is_of type_id) (sym (variable_typing-is program here v)) ∙ good) in
      let declared = (and_true (is_declared program here (out-RVar v).root) _
      (and_true _ _ typing).0).0 in
      rw (is, lent_root) (ap (λ b. b && true) declared)
  root_declared v type_id (s ∷ ss) is good = rw (is, lent_root) refl

  lent_declared : (params : List Param) (args : List RArg) → are_passed program here params args ≡
      true → AllDeclared (lent_by args)
  lent_declared [] [] good = refl
  lent_declared [] (a ∷ args) good = absurd (cc)
  lent_declared (p ∷ params) [] good = refl
  lent_declared (p ∷ params) (Value e ∷ args) good = lent_declared params args (and_true _ _ good).1
  lent_declared (p ∷ params) (Lent v ∷ args) good =
      let both = and_true (p.by_var && is_of p.type_id (variable_typing program here v))
      (are_passed program here params args) good in
      declared_append (lent_root v) (lent_by args)
      (root_declared v p.type_id (out-RVar v).steps refl (and_true _ _ both.0).1)
      (lent_declared params args both.1)

  call_declared : (callee : Option CheckedProc) (args : List RArg) →
      is_call program here callee args ≡ true → AllDeclared (lent_by args)
  call_declared (Some callee) args good = lent_declared callee.params args good
  call_declared None args good = absurd (cc)

  -- ---- statements

  abbrev OfStmt : RStmt → Type 0
  OfStmt x = is_typed program here x ≡ true → AllDeclared (lent_in x)

  abbrev OfArm : RArm → Type 0
  OfArm x = is_typed_arm program here x ≡ true → AllDeclared (lent_behind x)

  abbrev Layer : Type 0
  Layer = RStmt-F ((x : RStmt) × OfStmt x) ((x : RArm) × OfArm x)

  abbrev bare : Layer → RStmt-F RStmt RArm
  bare = map-RStmt ((x : RStmt) × OfStmt x) ((x : RArm) × OfArm x) RStmt RArm (λ x. x.0) (λ x. x.0)

  statements_declared : (xs : List ((x : RStmt) × OfStmt x)) →
      all_true (map (is_typed program here) (map (λ x. x.0) xs)) ≡ true →
      AllDeclared (joined (map lent_in (map (λ x. x.0) xs)))
  statements_declared [] good = refl
  statements_declared (x ∷ xs) good =
      let both = and_true (is_typed program here x.0)
      (all_true (map (is_typed program here) (map (λ x. x.0) xs))) good in
      declared_append (lent_in x.0) (joined (map lent_in (map (λ x. x.0) xs))) (x.1 both.0)
      (statements_declared xs both.1)

  arms_declared : (xs : List ((x : RArm) × OfArm x)) →
      all_true (map (is_typed_arm program here) (map (λ x. x.0) xs)) ≡ true →
      AllDeclared (joined (map lent_behind (map (λ x. x.0) xs)))
  arms_declared [] good = refl
  arms_declared (x ∷ xs) good =
      let both = and_true (is_typed_arm program here x.0)
      (all_true (map (is_typed_arm program here) (map (λ x. x.0) xs))) good in
      declared_append (lent_behind x.0) (joined (map lent_behind (map (λ x. x.0) xs))) (x.1 both.0)
      (arms_declared xs both.1)

  -- what a statement of a form lends, by what its parts lend
  abbrev FormLends : RStmt-F RStmt RArm → Type 0
  FormLends y =
      is_typed_step program here
      (map-RStmt RStmt RArm Bool Bool (is_typed program here) (is_typed_arm program here) y) ≡
      true → AllDeclared (lent_step
      (map-RStmt RStmt RArm (List Root) (List Root) lent_in lent_behind y))

  rolled : (y : RStmt-F RStmt RArm) → FormLends y → OfStmt (roll-RStmt y)
  rolled y of good =
      subst AllDeclared (sym (fold-roll-RStmt (List Root) (List Root) lent_step lent_in_arm y))
      (of (sym (fold-roll-RStmt Bool Bool (is_typed_step program here)
      (is_typed_arm_step program here) y) ∙ good))

  form_lends : (y : Layer) → FormLends (bare y)
  form_lends (RStmt-F.Assign v e) good = refl
  form_lends (RStmt-F.If arms other) good =
      let xs = map (λ x. x.0) arms in
      let ys = map (λ x. x.0) other in
      let both = and_true (all_true (map (is_typed_arm program here) xs))
      (all_true (map (is_typed program here) ys)) good in
      declared_append (joined (map lent_behind xs)) (joined (map lent_in ys))
      (arms_declared arms both.0) (statements_declared other both.1)
  form_lends (RStmt-F.While test body) good = statements_declared body (and_true _ _ good).1
  form_lends (RStmt-F.Repeat body test) good = statements_declared body (and_true _ _ good).0
  form_lends (RStmt-F.Call callee args) good = call_declared (slice_get program.procs callee.0) args
      good
  form_lends (RStmt-F.Read v) good = refl
  form_lends (RStmt-F.Write e) good = refl
  form_lends RStmt-F.WriteLine good = refl

  arm_case : (test : RExpr) (body : List ((x : RStmt) × OfStmt x)) →
      OfArm (roll-RArm (record { test = test; body = map (λ x. x.0) body }))
  arm_case test body good =
      subst AllDeclared (sym (fold-roll-RArm (List Root) (List Root) lent_step lent_in_arm
      (record { test = test; body = map (λ x. x.0) body })))
      (statements_declared body
      (and_true _ _ (sym (fold-roll-RArm Bool Bool (is_typed_step program here)
      (is_typed_arm_step program here) (record { test = test; body = map (λ x. x.0) body }))
      ∙ good)).1)

  statement_declared : (x : RStmt) → OfStmt x
  statement_declared = ind-RStmt OfStmt OfArm
      (λ x y is. subst (λ z. OfStmt (roll-RStmt z)) is (rolled (bare y) (form_lends y)))
      (λ x y is. subst (λ z. OfArm (roll-RArm z)) is (arm_case y.test y.body))

  -- the statements of a body
  pub body_declared : (xs : List RStmt) → are_typed program here xs ≡ true →
      AllDeclared (lent_in_all xs)
  body_declared [] good = refl
  body_declared (x ∷ xs) good =
      let both = and_true (is_typed program here x) (are_typed program here xs) good in
      declared_append (lent_in x) (lent_in_all xs) (statement_declared x both.0)
      (body_declared xs both.1)
