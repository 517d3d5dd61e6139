-- Calls and their arguments.
use Rattle.std.proofs.Common.{◌≡◌, ℕ, suc, ◌+◌, ◌<◌, ◌≤◌, ◌⊎◌, inl, inr, Bool, true, false, List}
use Rattle.std.proofs.Common.{[], ◌∷◌, ◌++◌, length, Option, Some, None, refl, ap, sym, subst, ◌∙◌}
use Rattle.std.proofs.Common.{arith}
use Rattle.std.specs.Prelude.{Ok, Err, nat_eq, if◌then◌else◌}
use Rattle.pra_list.proofs.Results.{came_of}
use Rattle.ob_syntax.specs.declared.checked.Meaning.{Meaning}
use Rattle.ob_syntax.specs.declared.checked.Meaning.TheVariants.{Constant, TypeName, Variable}
use Rattle.ob_syntax.specs.declared.checked.Meaning.TheVariants.{Procedure, Standard}
use Rattle.ob_syntax.specs.declared.checked.Param.{Param}
use Rattle.ob_syntax.specs.declared.checked.RArg.{RArg}
use Rattle.ob_syntax.specs.declared.checked.RArg.TheVariants.{Value, Lent}
use Rattle.ob_syntax.specs.declared.checked.RExpr.{RExpr, RExpr-F, out-RExpr}
use Rattle.ob_syntax.specs.declared.checked.RStmt.{RStmt}
use Rattle.ob_syntax.specs.declared.checked.RStmt.TheVariants as s
use Rattle.ob_syntax.specs.declared.checked.RVar.{RVar}
use Rattle.ob_syntax.specs.declared.checked.RStep.{RStep}
use Rattle.ob_syntax.specs.declared.checked.Standard.TheVariants.{Read, Write, WriteLine}
use Rattle.ob_syntax.specs.declared.checked.Typed.{Typed}
use Rattle.ob_syntax.specs.declared.tree.Expr.{Expr, out-Expr, fold_out-Expr}
use Rattle.ob_syntax.specs.Expressions.{Phrase, Next, Selected, Selection, FactorResult}
use Rattle.ob_syntax.specs.Expressions.{SelectorResult, factor_form, selector_form, designator}
use Rattle.ob_syntax.specs.Expressions.{expr, factor, next_factor, next_term, relation, selector}
use Rattle.ob_syntax.specs.Expressions.{simple_expr, term, integer, of_type, expression}
use Rattle.ob_syntax.specs.Names.{Fault, Judged, Place, used}
use Rattle.ob_syntax.specs.Statements.{is_designator, lent_variable, lent, passed, argument, beyond}
use Rattle.ob_syntax.specs.Statements.{arguments, counted, parameters, called}
use Rattle.ob_first.specs.Faults.{Fails, AnyOf, NameFails}
use Rattle.ob_first.specs.InExpressions.{InExpression}
use Rattle.ob_first.specs.InStatements.{wanted, ArgumentsFail, CallFails, InCall}
use Rattle.ob_first.proofs.Leads.{told, Leads, InOrder, alike, wide, after, behind, tested, nothing}
use Rattle.ob_first.proofs.Leads.{same_value, ok_err, err_told, as_told}
use Rattle.ob_first.proofs.Chains.{Stands, of_type_at}
use Rattle.ob_first.proofs.UsedNames.{named}
use Rattle.ob_first.proofs.ExpressionRules.{value_or_err}
use Rattle.pra_list.proofs.Choices.{by_test}
use Rattle.std.proofs.Math.Dec.{eqb-suc-suc}
use Rattle.pra_list.specs.Results.{◌>>=◌}

abbrev pub ExpressionAt : Expr → ℕ → ℕ → Type 0
ExpressionAt e i j = Stands i j (expression e) (λ p f. InExpression p e f)

-- the last token of an expression is that of its span
pub last_of : (e : Expr) → (expression e).last ≡ (out-Expr e).span.last
last_of e = ap (λ (q : Phrase). q.last)
    (fold_out-Expr FactorResult SelectorResult Selected Phrase Phrase Next Next Next Selection
    Phrase Phrase factor_form selector_form designator expr factor next_factor next_term relation
    selector simple_expr term e)

-- ---- one argument

lent_at : (type_id token : ℕ) (e : Typed) (f : Fault) → lent_variable type_id token e ≡ Err f →
    f.1 ≡ token
lent_at type_id token e f h = by (out-RExpr e.expr) refl h
  where
    by : (y : RExpr-F RExpr RStep RVar) → out-RExpr e.expr ≡ y → lent_variable type_id token e ≡
        Err f → f.1 ≡ token
    by (RExpr-F.Var v) is h = by_test (nat_eq e.type_id type_id) (Ok v) (Err (23, token)) (Err f)
        (λ t is. cc) (λ t is. cc) (rw (is, lent_variable) at h)
    by (RExpr-F.Number n) is h = let told_there = rw (is, lent_variable) at h in cc
    by (RExpr-F.Truth b) is h = let told_there = rw (is, lent_variable) at h in cc
    by (RExpr-F.Negate x) is h = let told_there = rw (is, lent_variable) at h in cc
    by (RExpr-F.Not x) is h = let told_there = rw (is, lent_variable) at h in cc
    by (RExpr-F.Binary op x y) is h = let told_there = rw (is, lent_variable) at h in cc

-- the test of an argument that has a reading
kind_test : Param → Expr → Typed → Judged RArg
kind_test param e x =
    let last = (out-Expr e).span.last in
    if param.by_var then ((if is_designator e then lent_variable param.type_id last x else Err
    (23, last)) >>= λ v. Ok (Lent v))
    else (of_type 22 param.type_id last x >>= λ y. Ok (Value y))

argument_is : (p : Place) (param : Param) (e : Expr) → argument p param e ≡
    ((expression e).judge p >>= kind_test param e)
unfolding kind_test
argument_is p param e = by param.by_var ((expression e).judge p)
  where
    last : ℕ
    last = (out-Expr e).span.last

    lends : Typed → Judged RVar
    lends x = if is_designator e then lent_variable param.type_id last x else Err (23, last)

    passes : Typed → Judged RExpr
    passes x = of_type 22 param.type_id last x

    by : (b : Bool) (r : Judged Typed)
        → (if b then ((r >>= lends) >>= λ v. Ok (Lent v)) else
        ((r >>= passes) >>= λ y. Ok (Value y))) ≡
        (r >>= λ x. if b then (lends x >>= λ v. Ok (Lent v)) else (passes x >>= λ y. Ok (Value y)))
    by true (Ok x) = refl
    by true (Err f) = refl
    by false (Ok x) = refl
    by false (Err f) = refl

kind_test_at : (param : Param) (e : Expr) (x : Typed) (f : Fault) → kind_test param e x ≡ Err f →
    f.1 ≡ (out-Expr e).span.last
unfolding kind_test
kind_test_at param e x f h = by_test param.by_var _ _ (Err f)
    (λ t is. by_test (is_designator e) _ _ (Err f) (λ t is. lent_at param.type_id last x f is)
    (λ t is. cc) (value_or_err
    (if is_designator e then lent_variable param.type_id last x else Err (23, last))
    Lent f is)) (λ t is. of_type_at 22 param.type_id last x f
    (value_or_err (of_type 22 param.type_id last x) Value f is)) h
  where
    last : ℕ
    last = (out-Expr e).span.last

one_argument : (p : Place) (param : Param) (e : Expr) (i j : ℕ) → ExpressionAt e i j →
    Leads i j (told (argument p param e))
    (λ f. InExpression p e f ⊎ Fails ((expression e).judge p) (λ x. argument p param e) f)
one_argument p param e i j at =
    alike (tested ((expression e).judge p) (kind_test param e) (at.leads p)
    (λ x f fails. let there = kind_test_at param e x f fails in let is = last_of e in
    let end = at.last in let some = at.some in
    (omega (arith, there, is, end, some), omega (arith, there, is, end))))
    (ap told (sym (argument_is p param e)))
    (λ f. elim [
      | inl b ↦ inl b
      | inr (x, is, fails) ↦
          inr (x, is, argument_is p param e ∙ of_value x ((expression e).judge p) is ∙ fails)
    ])
    (λ f. elim [
      | inl b ↦ inl b
      | inr (x, is, fails) ↦
          inr (
            x,
            is,
            sym (of_value x ((expression e).judge p) is) ∙ sym (argument_is p param e)
                ∙ fails,
          )
    ])
  where
    of_value : (x : Typed) (r : Judged Typed) → r ≡ Ok x → (r >>= kind_test param e) ≡
        kind_test param e x
    of_value x r is = ap (λ (r : Judged Typed). r >>= kind_test param e) is

-- ---- all arguments

pub in_order : (es : List Expr) (i j : ℕ) → InOrder ExpressionAt i es j → i ≤ j
in_order [] i j h = h
in_order (e ∷ es) i j (k, l, low, one, order) = let some = one.some in let rest =
    in_order es l j order in omega arith

arguments_lead : (p : Place) (es : List Expr) (params : List Param) (done : List RArg) (i j : ℕ) →
    InOrder ExpressionAt i es j
    → Leads i j (told (arguments p done params es)) (λ f. AnyOf (InExpression p) es f ⊎
    ArgumentsFail p params es f)
arguments_lead p [] [] done i j order = alike nothing refl (λ f b. absurd b)
    (λ f. elim [ inl (x, is, b) ↦ is | inr b ↦ b ])
arguments_lead p [] (param ∷ params) done i j order = alike nothing refl (λ f b. absurd b)
    (λ f. elim [ inl (x, is, b) ↦ is | inr b ↦ b ])
arguments_lead p (e ∷ es) [] done i j (k, l, low, one, order) =
    let rest = arguments_lead p es [] done l j order in
    alike (after ((expression e).judge p) (λ typed. arguments p done [] es)
    (wide low (omega arith) (one.leads p)) (λ x is. rest) rest.lies
    (let some = one.some in omega arith) (in_order es l j order)) refl
    (λ f. elim [
      | inl b ↦ inl (e, inl refl, b)
      | inr (inl (x, is, b)) ↦
          inl (x, inr is, b)
      | inr (inr b) ↦ absurd b
    ])
    (λ f. elim [
      | inl (x, inl is, b) ↦ inl (subst (λ y. InExpression p y f) is b)
      | inl
          (x, inr is, b) ↦ inr (inl (x, is, b))
      | inr b ↦ absurd b
    ])
arguments_lead p (e ∷ es) (param ∷ params) done i j (k, l, low, one, order) =
    alike (after (argument p param e) (λ o. arguments p (done ++ o ∷ []) params es)
    (wide low (omega arith) (one_argument p param e k l one))
    (λ o is. arguments_lead p es params (done ++ o ∷ []) l j order)
    (arguments_lead p es params [] l j order).lies (let some = one.some in omega arith)
    (in_order es l j order)) refl
    (λ f. elim [
      | inl (inl b) ↦ inl (e, inl refl, b)
      | inl (inr b) ↦
          inr (inl b)
      | inr (inl (x, is, b)) ↦ inl (x, inr is, b)
      | inr (inr b) ↦ inr (inr b)
    ])
    (λ f. elim [
      | inl (x, inl is, b) ↦ inl (inl (subst (λ y. InExpression p y f) is b))
      | inl
          (x, inr is, b) ↦ inr (inl (x, is, b))
      | inr (inl b) ↦ inl (inr b)
      | inr (inr b) ↦
          inr (inr b)
    ])

-- ---- calls

counted_at : {A : Type 0} (token w g : ℕ) (call : A) (f : Fault) → counted token w g call ≡ Err f →
    f.1 ≡ token
counted_at token w g call f h = by_test (nat_eq w g) (Ok call) (Err (20, token)) (Err f)
    (λ t is. cc) (λ t is. cc) h

-- the parameters of what is called, or the broken rule where it is no procedure
abbrev or_broken : ℕ → Option (List Param) → Judged (List Param)
or_broken name (Some params) = Ok params
or_broken name None = Err (9, name)

abbrev callee : Place → ℕ → Meaning → Judged (List Param)
callee p name m = or_broken name (wanted p m)

counted_told : {A B : Type 0} (token w g w' g' : ℕ) (x : A) (y : B) → nat_eq w g ≡ nat_eq w' g' →
    told (counted token w g x) ≡ told (counted token w' g' y)
counted_told token w g w' g' x y e = by (nat_eq w g) (nat_eq w' g') e
  where
    by : (a b : Bool) → a ≡ b → told (if a then Ok x else Err (20, token)) ≡
        told (if b then Ok y else Err (20, token))
    by true true e = refl
    by false false e = refl
    by true false e = cc
    by false true e = cc

-- arguments beyond the last parameter
beyond_told : {A B : Type 0} (p : Place) (es : List Expr) (done : List RArg) (x : Judged A)
    (y : List RArg → Judged B) → ((args : List RArg) → told x ≡ told (y args))
    → told (beyond p es >>= λ none. x) ≡ told (arguments p done [] es >>= y)
beyond_told p [] done x y e = e done
beyond_told {A} {B} p (e ∷ es) done x y is = by ((expression e).judge p)
    (beyond_told p es done x y is)
  where
    by : (r : Judged Typed) → told (beyond p es >>= λ none. x) ≡
        told (arguments p done [] es >>= y) → told ((r >>= λ typed. beyond p es) >>= λ none. x) ≡
        told ((r >>= λ typed. arguments p done [] es) >>= y)
    by (Ok t) h = h
    by (Err f) h = refl

abbrev judged_call : Place → ℕ → List Expr → List Param → Judged (List RArg)
judged_call p last es params = arguments p [] params es >>= counted last (length params) (length es)

read_told : {V : Type 0} (p : Place) (last : ℕ) (es : List Expr) (r : Judged V) (arg : V → RArg)
    (call : V → RStmt)
    → told (r >>= λ v. beyond p es >>= λ none. counted last 0 (length es) (call v)) ≡
    told (((r >>= λ v. Ok (arg v)) >>= λ o. arguments p (o ∷ []) [] es) >>= counted last 1
    (suc (length es)))
read_told p last es (Ok v) arg call =
    beyond_told p es (arg v ∷ []) (counted last 0 (length es) (call v))
    (counted last 1 (suc (length es)))
    (λ args. counted_told last 0 (length es) 1 (suc (length es)) (call v) args
    (same_count (length es)))
  where
    same_count : (n : ℕ) → nat_eq 0 n ≡ nat_eq 1 (suc n)
    same_count n = sym (eqb-suc-suc 0 n)
read_told p last es (Err f) arg call = refl

called_told : (p : Place) (last name : ℕ) (es : List Expr) (m : Meaning) →
    told (called p last name m es) ≡ told (callee p name m >>= judged_call p last es)
called_told p last name es (Procedure id) = by (arguments p [] (parameters p id) es)
  where
    by : (r : Judged (List RArg))
        → told (r >>= λ args. counted last (length (parameters p id)) (length es)
        (s.Call (record { 0 = id }) args)) ≡
        told (r >>= counted last (length (parameters p id)) (length es))
    by (Ok args) = counted_told last (length (parameters p id)) (length es)
        (length (parameters p id)) (length es) (s.Call (record { 0 = id }) args) args refl
    by (Err f) = refl
called_told p last name [] (Standard Read) = refl
called_told p last name (e ∷ es) (Standard Read) = read_told p last es (lent p integer e) Lent
    (λ v. s.Read v)
called_told p last name [] (Standard Write) = refl
called_told p last name (e ∷ es) (Standard Write) = read_told p last es (passed p integer e) Value
    (λ x. s.Write x)
called_told p last name es (Standard WriteLine) =
    beyond_told p es [] (counted last 0 (length es) s.WriteLine) (counted last 0 (length es))
    (λ args. counted_told last 0 (length es) 0 (length es) s.WriteLine args refl)
called_told p last name es (Constant v) = refl
called_told p last name es (TypeName t) = refl
called_told p last name es (Variable owner root t) = refl

-- ---- the tests of a call

broken_at : (name : ℕ) (o : Option (List Param)) (f : Fault) → or_broken name o ≡ Err f →
    (f.1 ≡ name) × (6 ≤ f.0)
broken_at name (Some params) f h = absurd (cc)
broken_at name None f h = let there : f.1 ≡ name = cc in let rule : f.0 ≡ 9 = cc in
    (there, omega (arith, rule))

ok_some : (name : ℕ) (o : Option (List Param)) (params : List Param) → or_broken name o ≡
    Ok params → o ≡ Some params
ok_some name (Some xs) params h = ap Some (same_value (or_broken name (Some xs)) xs params refl h)
ok_some name None params h = absurd (cc)

-- what means no procedure is tested by its name alone
no_procedure : (p : Place) (last name : ℕ) (es : List Expr) (m : Meaning) (f : Fault) → wanted p m ≡
    None → called p last name m es ≡ Err f → callee p name m ≡ Err f
no_procedure p last name es (Constant v) f none h = as_told (called p last name (Constant v) es)
    (callee p name (Constant v)) f refl h
no_procedure p last name es (TypeName t) f none h = as_told (called p last name (TypeName t) es)
    (callee p name (TypeName t)) f refl h
no_procedure p last name es (Variable owner root t) f none h =
    as_told (called p last name (Variable owner root t) es) (callee p name (Variable owner root t))
    f refl h
no_procedure p last name es (Procedure id) f none h = absurd (cc)
no_procedure p last name es (Standard Read) f none h = absurd (cc)
no_procedure p last name es (Standard Write) f none h = absurd (cc)
no_procedure p last name es (Standard WriteLine) f none h = absurd (cc)

of_no_procedure : (p : Place) (last name : ℕ) (es : List Expr) (m : Meaning) (f : Fault) →
    callee p name m ≡ Err f → (wanted p m ≡ None) × (called p last name m es ≡ Err f)
of_no_procedure p last name es (Constant v) f h =
    (refl, as_told (callee p name (Constant v)) (called p last name (Constant v) es) f refl h)
of_no_procedure p last name es (TypeName t) f h =
    (refl, as_told (callee p name (TypeName t)) (called p last name (TypeName t) es) f refl h)
of_no_procedure p last name es (Variable owner root t) f h = (
  refl,
  as_told (callee p name (Variable owner root t))
      (called p last name (Variable owner root t) es) f refl h,
)
of_no_procedure p last name es (Procedure id) f h = absurd (cc)
of_no_procedure p last name es (Standard Read) f h = absurd (cc)
of_no_procedure p last name es (Standard Write) f h = absurd (cc)
of_no_procedure p last name es (Standard WriteLine) f h = absurd (cc)

call_parts : (p : Place) (last name : ℕ) (es : List Expr) (r : Judged Meaning) →
    told ((r >>= callee p name) >>= judged_call p last es) ≡
    told (r >>= λ m. called p last name m es)
call_parts p last name es (Ok m) = sym (called_told p last name es m)
call_parts p last name es (Err f) = refl

pub call_leads : (p : Place) (last name : ℕ) (es : List Expr) (j : ℕ) → last + 1 ≡ j → name < j →
    InOrder ExpressionAt (name + 1) es j
    → Leads name j (told (used p name >>= λ m. called p last name m es)) (InCall p last name es)
call_leads p last name es j ends some order =
    alike (behind name j a (judged_call p last es) (NameFails p name (callee p name)) Q
    (wide (omega arith) (omega arith) front) (λ params is. alike (by_arguments params) refl
    (λ f. elim [
      | inl (inl b) ↦ inl b
      | inl (inr b) ↦ inr (params, is, inl b)
      | inr b ↦
          inr (params, is, inr b)
    ])
    (λ f. elim [
      | inl b ↦ inl (inl b)
      | inr (xs, is', b) ↦ by_parts params f
          (subst (λ (ys : List Param). CallFails p last ys es f) (same_value a xs params is' is) b)
    ]))
    (λ f. elim [
      | inl b ↦ (by_arguments []).lies f (inl (inl b))
      | inr (params, is, b) ↦
          (by_arguments params).lies f (by_parts params f b)
    ])
    (λ h f is. elim [
      | inl b ↦ let here = front.lies h (front.tells h (err_told a h is)) in let there =
          (arguments_lead p es [] [] (name + 1) j order).lies f (inl b) in
          inl (omega (arith, here.1, there.0))
      | inr (params, is', b) ↦ absurd (ok_err a params h is' is)
    ])) (call_parts p last name es (used p name))
    (λ f. elim [
      | inl (inl b) ↦ inl b
      | inl (inr (m, is, b)) ↦ let at = of_no_procedure p last name es m f b in
          inr (inl (m, is, at.0, at.1))
      | inr (inl b) ↦ inr (inr (inl b))
      | inr (inr (params, is, b)) ↦ let of = came_of (used p name) (callee p name) params is in
          inr (inr (inr (of.0, params, of.1, ok_some name (wanted p of.0) params of.2, b)))
    ])
    (λ f. elim [
      | inl b ↦ inl (inl b)
      | inr (inl (m, is, none, b)) ↦ inl (inr (m, is, no_procedure p last name es m f none b))
      | inr (inr (inl b)) ↦ inr (inl b)
      | inr (inr (inr (m, params, is, has, b))) ↦
          inr (inr (
            params,
            ap (λ (r : Judged Meaning). r >>= callee p name) is
                ∙ ap (or_broken name) has,
            b,
          ))
    ])
  where
    a : Judged (List Param)
    a = used p name >>= callee p name

    Any : Fault → Type 0
    Any f = AnyOf (InExpression p) es f

    Q : Fault → Type 0
    Q f = Any f ⊎ ((params : List Param) × (a ≡ Ok params) × CallFails p last params es f)

    front : Leads name (name + 1) (told a) (NameFails p name (callee p name))
    front = named p name (callee p name) (λ m f. broken_at name (wanted p m) f)

    by_parts : (params : List Param) (f : Fault) → CallFails p last params es f →
        (Any f ⊎ ArgumentsFail p params es f) ⊎ Fails (arguments p [] params es)
        (counted last (length params) (length es)) f
    by_parts params f (inl b) = inl (inr b)
    by_parts params f (inr b) = inr b

    by_arguments : (params : List Param) → Leads name j (told (judged_call p last es params))
        (λ f. (Any f ⊎ ArgumentsFail p params es f) ⊎ Fails (arguments p [] params es)
        (counted last (length params) (length es)) f)
    by_arguments params =
        tested (arguments p [] params es) (counted last (length params) (length es))
        (wide (omega arith) (omega arith) (arguments_lead p es params [] (name + 1) j order))
        (λ args f h. let at = counted_at last (length params) (length es) args f h in
        (omega (arith, at), omega (arith, at)))
