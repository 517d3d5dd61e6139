-- What a statement is read as is typed, in a place that fits the module.
use Rattle.std.proofs.Common.{◌≡◌, ℕ, ◌<◌, Bool, true, false, not, ◌&&◌, List, [], ◌∷◌, ◌++◌}
use Rattle.std.proofs.Common.{length, map, Some, refl, ap, sym, ◌∙◌, subst, arith, eqb-true}
use Rattle.std.specs.Prelude.{Ok, Err, nat_eq, slice_get, get_or, if◌then◌else◌}
use Rattle.std.proofs.lemmas.Option.{slice_get-get_or}
use Rattle.pra_list.proofs.Results.{came_of}
use Rattle.pra_list.proofs.Choices.{by_test, and_true}
use Rattle.pra_list.specs.Results.{◌>>=◌}
use Rattle.ob_syntax.specs.declared.checked.Checked.{Checked}
use Rattle.ob_syntax.specs.declared.checked.CheckedProc.{CheckedProc}
use Rattle.ob_syntax.specs.declared.checked.Meaning.{Meaning}
use Rattle.ob_syntax.specs.declared.checked.Meaning.TheVariants as meaning
use Rattle.ob_syntax.specs.declared.checked.Param.{Param}
use Rattle.ob_syntax.specs.declared.checked.RArg.{RArg}
use Rattle.ob_syntax.specs.declared.checked.RArg.TheVariants.{Value, Lent}
use Rattle.ob_syntax.specs.declared.checked.RArm.{RArm, roll-RArm, fold-roll-RArm}
use Rattle.ob_syntax.specs.declared.checked.RExpr.{RExpr, RExpr-F, out-RExpr}
use Rattle.ob_syntax.specs.declared.checked.RStmt.{RStmt}
use Rattle.ob_syntax.specs.declared.checked.RStmt.TheVariants as s
use Rattle.ob_syntax.specs.declared.checked.RVar.{RVar, RVar-F, out-RVar, out-roll-RVar}
use Rattle.ob_syntax.specs.declared.checked.RStep.{RStep}
use Rattle.ob_syntax.specs.declared.checked.Standard.{Standard as StandardName}
use Rattle.std.proofs.lemmas.List.{append-nil, append_assoc}
use Rattle.ob_syntax.specs.declared.checked.Standard.TheVariants.{Read, Write, WriteLine}
use Rattle.ob_syntax.specs.declared.checked.Typed.{Typed}
use Rattle.ob_syntax.specs.declared.tree.Designator.{Designator}
use Rattle.ob_syntax.specs.declared.tree.Expr.{Expr, out-Expr}
use Rattle.ob_syntax.specs.Expressions.{Selected, expression, name_with_selectors, selected}
use Rattle.ob_syntax.specs.Expressions.{variable, integer, boolean, of_type, are_alike}
use Rattle.ob_syntax.specs.Names.{Place, used}
use Rattle.ob_syntax.specs.Statements.{target, assigned, condition, is_designator, lent_variable}
use Rattle.ob_syntax.specs.Statements.{lent, passed, argument, beyond, arguments, counted}
use Rattle.ob_syntax.specs.Statements.{parameters, standard_call, procedure_call, called, Judge}
use Rattle.ob_syntax.specs.Statements.{each}
use Rattle.ob_syntax.specs.WellFormed.{is_scalar}
use Rattle.vc_typed.specs.Typing as t
use Rattle.vc_typed.specs.Typing.{Typing, is_of, root_typing, typing, variable_typing}
use Rattle.vc_typed.specs.TypedStatements.{all_true, is_assignable, is_passed, are_passed, is_call}
use Rattle.vc_typed.specs.TypedStatements.{is_typed_step, is_typed_arm_step, is_typed, is_typed_arm}
use Rattle.vc_typed.specs.TypedStatements.{are_typed}
use Rattle.vc_typed.specs.Fitting.{Fits, AreAlike, ValuesAreScalars, IsThere}
use Rattle.vc_typed.proofs.Bindings.{ok_same, ok_err, eq_self}
use Rattle.vc_typed.proofs.ExpressionTypes.{Holds, AllGood, of_type_typed, alike_types}
use Rattle.vc_typed.proofs.ExpressionTypes.{selected_along, variable_good, used_there, at_here}
use Rattle.vc_typed.proofs.StatementEquations.{typed-Assign, typed-If, typed-While, typed-Repeat}
use Rattle.vc_typed.proofs.StatementEquations.{typed-Call, typed-Read, typed-Write, typed-WriteLine}
use Rattle.vc_typed.proofs.ExpressionTrees.{expression_good, selections_hold}

module _ (program : Checked) where
  -- ---- each form of statement

  both_true : (a b : Bool) → a ≡ true → b ≡ true → (a && b) ≡ true
  both_true a b x y = ap (λ z. z && b) x ∙ y

  of_itself : (type_id : ℕ) (y : Typing) → y ≡ t.typed true type_id → is_of type_id y ≡ true
  of_itself type_id y is = ap (is_of type_id) is ∙ eq_self type_id

  assign_typed : (here : ℕ) (v : RVar) (y : RExpr) (type_id : ℕ) → variable_typing program here v ≡
      t.typed true type_id → typing program here y ≡ t.typed true type_id → is_scalar type_id ≡
      true → is_typed program here (s.Assign v y) ≡ true
  assign_typed here v y type_id left right scalar =
      typed-Assign program here v y
      ∙ ap (λ z. is_assignable z (typing program here y)) left
      ∙ ap (is_assignable (t.typed true type_id)) right ∙ both_true (is_scalar type_id)
      (nat_eq type_id type_id) scalar (eq_self type_id)

  pub if_typed : (here : ℕ) (arms : List RArm) (other : List RStmt) →
      all_true (map (is_typed_arm program here) arms) ≡ true → are_typed program here other ≡ true →
      is_typed program here (s.If arms other) ≡ true
  if_typed here arms other left right =
      typed-If program here arms other ∙ both_true _ _ left right

  pub while_typed : (here : ℕ) (test : RExpr) (body : List RStmt) → typing program here test ≡
      t.typed true boolean → are_typed program here body ≡ true →
      is_typed program here (s.While test body) ≡ true
  while_typed here test body good all =
      typed-While program here test body ∙ both_true _ _ (of_itself boolean _ good) all

  pub repeat_typed : (here : ℕ) (body : List RStmt) (test : RExpr) → typing program here test ≡
      t.typed true boolean → are_typed program here body ≡ true →
      is_typed program here (s.Repeat body test) ≡ true
  repeat_typed here body test good all =
      typed-Repeat program here body test ∙ both_true _ _ all (of_itself boolean _ good)

  pub arm_typed : (here : ℕ) (test : RExpr) (body : List RStmt) → typing program here test ≡
      t.typed true boolean → are_typed program here body ≡ true →
      is_typed_arm program here (roll-RArm (record { test = test; body = body })) ≡ true
  arm_typed here test body good all =
      fold-roll-RArm Bool Bool (is_typed_step program here) (is_typed_arm_step program here)
      (record { test = test; body = body }) ∙ both_true _ _ (of_itself boolean _ good) all

  call_typed : (here id : ℕ) (args : List RArg) (proc : CheckedProc) → slice_get program.procs id ≡
      Some proc → are_passed program here proc.params args ≡ true →
      is_typed program here (s.Call (record { 0 = id }) args) ≡ true
  call_typed here id args proc there all =
      typed-Call program here (record { 0 = id }) args
      ∙ ap (λ found. is_call program here found args) there ∙ all

  read_typed : (here : ℕ) (v : RVar) → variable_typing program here v ≡ t.typed true integer →
      is_typed program here (s.Read v) ≡ true
  read_typed here v good = typed-Read program here v ∙ of_itself integer _ good

  write_typed : (here : ℕ) (y : RExpr) → typing program here y ≡ t.typed true integer →
      is_typed program here (s.Write y) ≡ true
  write_typed here y good = typed-Write program here y ∙ of_itself integer _ good

  line_typed : (here : ℕ) → is_typed program here s.WriteLine ≡ true
  line_typed here = typed-WriteLine program here

  -- ---- assignments and conditions

  target_is : (p : Place) → Fits program p → (d : Selected) → AllGood program d.selectors →
      (m : Meaning) (v : RVar) → IsThere program (length p.types) (length p.headings)
      (at_here program p.here m) → target p d m ≡ Ok v
      → variable_typing program p.here v ≡ t.typed true (out-RVar v).type_id
  target_is p fits d good (meaning.Variable owner r type_id) v there is =
      let of = came_of (selected p [] type_id d.selectors) (λ steps. Ok (variable r steps)) v is in
      let along = selected_along program p fits d.selectors good (root_typing program p.here r)
      [] type_id of.0 there of.1 in
      subst (λ w. variable_typing program p.here w ≡ t.typed true (out-RVar w).type_id)
      (ok_same (variable r of.0) v of.2)
      (variable_good program p.here r of.0 along
      ∙ ap (λ (w : RVar-F RExpr RStep RVar). t.typed true w.type_id)
      (sym (out-roll-RVar (record { root = r; steps = of.0.0; type_id = of.0.1 }))))
  target_is p fits d good (meaning.Constant w) v there is = absurd (cc)
  target_is p fits d good (meaning.TypeName w) v there is = absurd (cc)
  target_is p fits d good (meaning.Procedure w) v there is = absurd (cc)
  target_is p fits d good (meaning.Standard w) v there is = absurd (cc)

  assigned_typed : (here last : ℕ) (v : RVar) (e : Typed) (y : RStmt) →
      variable_typing program here v ≡ t.typed true (out-RVar v).type_id → Holds program here e →
      assigned last v e ≡ Ok y → is_typed program here y ≡ true
  assigned_typed here last v e y left right is =
      by_test (are_alike (out-RVar v).type_id e.type_id) (Ok (s.Assign v e.expr)) (Err (18, last))
      (Ok y) (λ b same.
      let types = alike_types program (out-RVar v).type_id e.type_id b in
      subst (λ z. is_typed program here z ≡ true) (ok_same (s.Assign v e.expr) y same)
      (assign_typed here v e.expr (out-RVar v).type_id left
      (right.value (ap is_scalar (sym types.0) ∙ types.1) ∙ ap (t.typed true) (sym types.0))
      types.1))
      (λ other same. absurd (cc)) is

  pub assignment_typed : (p : Place) → Fits program p → (last : ℕ) (d : Designator) (e : Expr)
      (y : RStmt)
      → (used p (name_with_selectors d).name >>= λ m. target p (name_with_selectors d) m >>= λ v.
      (expression e).judge p >>= λ value. assigned last v value) ≡ Ok y →
      is_typed program p.here y ≡ true
  assignment_typed p fits last d e y is =
      let n = name_with_selectors d in
      let one = came_of (used p n.name)
      (λ m. target p n m >>= λ v. (expression e).judge p >>= λ value. assigned last v value) y
      is in
      let two = came_of (target p n one.0)
      (λ v. (expression e).judge p >>= λ value. assigned last v value) y one.2 in
      let three = came_of ((expression e).judge p) (λ value. assigned last two.0 value) y two.2 in
      assigned_typed p.here last two.0 three.0 y
      (target_is p fits n (selections_hold program d) one.0 two.0
      (used_there program p fits n.name one.0 one.1) two.1)
      ((expression_good program e).holds p fits three.0 three.1) three.2

  pub condition_typed : (p : Place) → Fits program p → (e : Expr) (y : RExpr) → condition p e ≡
      Ok y → typing program p.here y ≡ t.typed true boolean
  condition_typed p fits e y is =
      let of = came_of ((expression e).judge p)
      (λ test. of_type 19 boolean (out-Expr e).span.last test) y is in
      of_type_typed program p.here 19 boolean (out-Expr e).span.last of.0 y refl
      ((expression_good program e).holds p fits of.0 of.1) of.2

  -- ---- arguments

  lent_is : (here type_id token : ℕ) (e : Typed) (v : RVar) (form : RExpr-F RExpr RStep RVar) →
      out-RExpr e.expr ≡ form → Holds program here e → lent_variable type_id token e ≡ Ok v →
      variable_typing program here v ≡ t.typed true type_id
  lent_is here type_id token e v (RExpr-F.Var w) form h is =
      by_test (nat_eq e.type_id type_id) (Ok w) (Err (23, token)) (Ok v)
      (λ b same. ap (variable_typing program here) (sym (ok_same w v same)) ∙ h.variable w form
      ∙ ap (t.typed true) (eqb-true e.type_id type_id b))
      (λ b same. absurd (cc)) (rw (form, lent_variable) at is)
  lent_is here type_id token e v (RExpr-F.Number n) form h is =
      absurd (ok_err (rw (form, lent_variable) at is))
  lent_is here type_id token e v (RExpr-F.Truth b) form h is =
      absurd (ok_err (rw (form, lent_variable) at is))
  lent_is here type_id token e v (RExpr-F.Negate inner) form h is =
      absurd (ok_err (rw (form, lent_variable) at is))
  lent_is here type_id token e v (RExpr-F.Not inner) form h is =
      absurd (ok_err (rw (form, lent_variable) at is))
  lent_is here type_id token e v (RExpr-F.Binary op left right) form h is =
      absurd (ok_err (rw (form, lent_variable) at is))

  lent_typed : (p : Place) → Fits program p → (type_id : ℕ) (e : Expr) (v : RVar) →
      lent p type_id e ≡ Ok v → variable_typing program p.here v ≡ t.typed true type_id
  lent_typed p fits type_id e v is =
      let last = (out-Expr e).span.last in
      let of = came_of ((expression e).judge p)
      (λ typed. if is_designator e then lent_variable type_id last typed else Err (23, last)) v
      is in
      by_test (is_designator e) (lent_variable type_id last of.0) (Err (23, last)) (Ok v)
      (λ b same. lent_is p.here type_id last of.0 v (out-RExpr of.0.expr) refl
      ((expression_good program e).holds p fits of.0 of.1) same) (λ b same. absurd (cc)) of.2

  passed_typed : (p : Place) → Fits program p → (type_id : ℕ) (e : Expr) (y : RExpr) →
      is_scalar type_id ≡ true → passed p type_id e ≡ Ok y → typing program p.here y ≡
      t.typed true type_id
  passed_typed p fits type_id e y scalar is =
      let of = came_of ((expression e).judge p)
      (λ typed. of_type 22 type_id (out-Expr e).span.last typed) y is in
      of_type_typed program p.here 22 type_id (out-Expr e).span.last of.0 y scalar
      ((expression_good program e).holds p fits of.0 of.1) of.2

  argument_passed : (p : Place) → Fits program p → (param : Param) (e : Expr) (arg : RArg) →
      (param.by_var ≡ false → is_scalar param.type_id ≡ true) → argument p param e ≡ Ok arg →
      is_passed program p.here param arg ≡ true
  argument_passed p fits param e arg scalar is =
      by_test param.by_var (lent p param.type_id e >>= (λ v. Ok (Lent v)))
      (passed p param.type_id e >>= (λ x. Ok (Value x))) (Ok arg)
      (λ b same.
      let of = came_of (lent p param.type_id e) (λ v. Ok (Lent v)) arg same in
      subst (λ a. is_passed program p.here param a ≡ true) (ok_same (Lent of.0) arg of.2)
      (both_true _ _ b (of_itself param.type_id _ (lent_typed p fits param.type_id e of.0 of.1))))
      (λ b same.
      let of = came_of (passed p param.type_id e) (λ x. Ok (Value x)) arg same in
      subst (λ a. is_passed program p.here param a ≡ true) (ok_same (Value of.0) arg of.2)
      (both_true _ _ (ap not b)
      (of_itself param.type_id _ (passed_typed p fits param.type_id e of.0 (scalar b) of.1))))
      is

  passed_last : (here : ℕ) (params : List Param) (done : List RArg) (param : Param) (arg : RArg) →
      are_passed program here params done ≡ true → is_passed program here param arg ≡ true →
      are_passed program here (params ++ param ∷ []) (done ++ arg ∷ []) ≡ true
  passed_last here [] [] param arg all one = both_true _ _ one refl
  passed_last here [] (x ∷ done) param arg all one = absurd (cc)
  passed_last here (q ∷ params) [] param arg all one = absurd (cc)
  passed_last here (q ∷ params) (x ∷ done) param arg all one =
      let both = and_true _ _ all in
      both_true _ _ both.0 (passed_last here params done param arg both.1 one)

  -- the arguments of as many parameters
  arguments_passed : (p : Place) → Fits program p → (before : List Param) (done : List RArg)
      (params : List Param) (es : List Expr) (args : List RArg) → ValuesAreScalars params →
      length params ≡ length es
      → are_passed program p.here before done ≡ true → arguments p done params es ≡ Ok args →
      are_passed program p.here (before ++ params) args ≡ true
  arguments_passed p fits before done [] [] args scalars count so_far is =
      subst (λ z. are_passed program p.here z args ≡ true) (sym (append-nil before))
      (subst (λ z. are_passed program p.here before z ≡ true) (ok_same done args is) so_far)
  arguments_passed p fits before done [] (e ∷ es) args scalars count so_far is =
      absurd (omega (arith, count))
  arguments_passed p fits before done (q ∷ params) [] args scalars count so_far is =
      absurd (omega (arith, count))
  arguments_passed p fits before done (q ∷ params) (e ∷ es) args (scalar, scalars) count so_far is =
      let of = came_of (argument p q e) (λ one. arguments p (done ++ one ∷ []) params es) args is in
      subst (λ z. are_passed program p.here z args ≡ true) (append_assoc before (q ∷ []) params)
      (arguments_passed p fits (before ++ q ∷ []) (done ++ of.0 ∷ []) params es args scalars
      (omega (arith, count))
      (passed_last p.here before done q of.0 so_far (argument_passed p fits q e of.0 scalar of.1))
      of.2)

  -- ---- calls

  passed_alike : (here : ℕ) (params others : List Param) (args : List RArg) →
      AreAlike params others → are_passed program here params args ≡ true →
      are_passed program here others args ≡ true
  passed_alike here [] [] args alike all = all
  passed_alike here [] (q ∷ others) args alike all = absurd alike
  passed_alike here (q ∷ params) [] args alike all = absurd alike
  passed_alike here (q ∷ params) (r ∷ others) [] alike all = absurd (cc)
  passed_alike here (q ∷ params) (r ∷ others) (Value y ∷ args) (kind, of, alike) all =
      let both = and_true _ _ all in
      both_true _ _ (subst (λ i. (not r.by_var && is_of i (typing program here y)) ≡ true) of
      (subst (λ b. (not b && is_of q.type_id (typing program here y)) ≡ true) kind both.0))
      (passed_alike here params others args alike both.1)
  passed_alike here (q ∷ params) (r ∷ others) (Lent v ∷ args) (kind, of, alike) all =
      let both = and_true _ _ all in
      both_true _ _ (subst (λ i. (r.by_var && is_of i (variable_typing program here v)) ≡ true) of
      (subst (λ b. (b && is_of q.type_id (variable_typing program here v)) ≡ true) kind both.0))
      (passed_alike here params others args alike both.1)

  counted_is : {A : Type 0} (token wanted given : ℕ) (call y : A) →
      counted token wanted given call ≡ Ok y → (wanted ≡ given) × (call ≡ y)
  counted_is token wanted given call y is =
      by_test (nat_eq wanted given) (Ok call) (Err (20, token)) (Ok y)
      (λ b same. (eqb-true wanted given b, ok_same call y same)) (λ b same. absurd (cc)) is

  procedure_call_typed : (p : Place) → Fits program p → (last id : ℕ) (es : List Expr) (y : RStmt) →
      id < length p.headings → procedure_call p last id es ≡ Ok y → is_typed program p.here y ≡ true
  procedure_call_typed p fits last id es y there is =
      let params = get_or p.headings id [] in
      let at : slice_get p.headings id ≡ Some params = slice_get-get_or p.headings id [] there in
      let same : parameters p id ≡ params = rw (at, parameters) refl in
      let of = came_of (arguments p [] (parameters p id) es)
      (λ args. counted last (length (parameters p id)) (length es)
      (s.Call (record { 0 = id }) args)) y is in
      let end = counted_is last (length (parameters p id)) (length es)
      (s.Call (record { 0 = id }) of.0) y of.2 in
      let proc = fits.headings id params at in
      let all = arguments_passed p fits [] [] params es of.0 proc.scalars
      (ap length (sym same) ∙ end.0) refl (subst (λ z. arguments p [] z es ≡ Ok of.0) same of.1)
      in
      subst (λ z. is_typed program p.here z ≡ true) end.1
      (call_typed p.here id of.0 proc.proc proc.there
      (passed_alike p.here params proc.proc.params of.0 proc.alike all))

  standard_typed : (p : Place) → Fits program p → (last : ℕ) (which : StandardName) (es : List Expr)
      (y : RStmt) → standard_call p last which es ≡ Ok y → is_typed program p.here y ≡ true
  standard_typed p fits last Read [] y is = absurd (cc)
  standard_typed p fits last Read (e ∷ es) y is =
      let one = came_of (lent p integer e)
      (λ v. beyond p es >>= λ none. counted last 0 (length es) (s.Read v)) y is in
      let two = came_of (beyond p es) (λ none. counted last 0 (length es) (s.Read one.0)) y one.2 in
      subst (λ z. is_typed program p.here z ≡ true)
      (counted_is last 0 (length es) (s.Read one.0) y two.2).1
      (read_typed p.here one.0 (lent_typed p fits integer e one.0 one.1))
  standard_typed p fits last Write [] y is = absurd (cc)
  standard_typed p fits last Write (e ∷ es) y is =
      let one = came_of (passed p integer e)
      (λ v. beyond p es >>= λ none. counted last 0 (length es) (s.Write v)) y is in
      let two = came_of (beyond p es) (λ none. counted last 0 (length es) (s.Write one.0)) y
      one.2 in
      subst (λ z. is_typed program p.here z ≡ true)
      (counted_is last 0 (length es) (s.Write one.0) y two.2).1
      (write_typed p.here one.0 (passed_typed p fits integer e one.0 refl one.1))
  standard_typed p fits last WriteLine es y is =
      let two = came_of (beyond p es) (λ none. counted last 0 (length es) s.WriteLine) y is in
      subst (λ z. is_typed program p.here z ≡ true)
      (counted_is last 0 (length es) s.WriteLine y two.2).1 (line_typed p.here)

  pub called_typed : (p : Place) → Fits program p → (last name : ℕ) (m : Meaning) (es : List Expr)
      (y : RStmt) → IsThere program (length p.types) (length p.headings)
      (at_here program p.here m) → called p last name m es ≡ Ok y → is_typed program p.here y ≡ true
  called_typed p fits last name (meaning.Procedure id) es y there is =
      procedure_call_typed p fits last id es y there is
  called_typed p fits last name (meaning.Standard which) es y there is =
      standard_typed p fits last which es y is
  called_typed p fits last name (meaning.Constant w) es y there is = absurd (cc)
  called_typed p fits last name (meaning.TypeName w) es y there is = absurd (cc)
  called_typed p fits last name (meaning.Variable owner r w) es y there is = absurd (cc)

  -- ---- lists of statements

  pub record GoodJudge (judge : Judge RStmt) : Type 0 where
    pub gives : (p : Place) → Fits program p → (y : RStmt) → judge p ≡ Ok y →
        is_typed program p.here y ≡ true

  pub record GoodArm (judge : Judge RArm) : Type 0 where
    pub gives : (p : Place) → Fits program p → (y : RArm) → judge p ≡ Ok y →
        is_typed_arm program p.here y ≡ true

  abbrev pub AllJudges : List (Judge RStmt) → Type 0
  AllJudges [] = Unit {0}
  AllJudges (j ∷ js) = GoodJudge j × AllJudges js

  abbrev pub AllArms : List (Judge RArm) → Type 0
  AllArms [] = Unit {0}
  AllArms (j ∷ js) = GoodArm j × AllArms js

  true_last : {A : Type 0} (f : A → Bool) (xs : List A) (y : A) → all_true (map f xs) ≡ true →
      f y ≡ true → all_true (map f (xs ++ y ∷ [])) ≡ true
  true_last f [] y all one = both_true _ _ one refl
  true_last f (x ∷ xs) y all one = let both = and_true _ _ all in
      both_true _ _ both.0 (true_last f xs y both.1 one)

  pub each_typed : (p : Place) → Fits program p → (js : List (Judge RStmt)) (done ys : List RStmt) →
      AllJudges js → are_typed program p.here done ≡ true → each p done js ≡ Ok ys →
      are_typed program p.here ys ≡ true
  each_typed p fits [] done ys good so_far is = subst (λ z. are_typed program p.here z ≡ true)
      (ok_same done ys is) so_far
  each_typed p fits (j ∷ js) done ys (good, rest) so_far is =
      let of = came_of (j p) (λ one. each p (done ++ one ∷ []) js) ys is in
      each_typed p fits js (done ++ of.0 ∷ []) ys rest
      (true_last (is_typed program p.here) done of.0 so_far (good.gives p fits of.0 of.1)) of.2

  pub each_arm_typed : (p : Place) → Fits program p →
      (js : List (Judge RArm)) (done ys : List RArm) → AllArms js →
      all_true (map (is_typed_arm program p.here) done) ≡ true → each p done js ≡ Ok ys →
      all_true (map (is_typed_arm program p.here) ys) ≡ true
  each_arm_typed p fits [] done ys good so_far is =
      subst (λ z. all_true (map (is_typed_arm program p.here) z) ≡ true) (ok_same done ys is) so_far
  each_arm_typed p fits (j ∷ js) done ys (good, rest) so_far is =
      let of = came_of (j p) (λ one. each p (done ++ one ∷ []) js) ys is in
      each_arm_typed p fits js (done ++ of.0 ∷ []) ys rest
      (true_last (is_typed_arm program p.here) done of.0 so_far (good.gives p fits of.0 of.1))
      of.2
