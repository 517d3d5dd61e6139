-- The nodes of what each production of expressions and statements is read as, from those of its
-- parts.
use Rattle.std.proofs.Common.{◌≡◌, ℕ, ◌+◌, ◌≤◌, ℤ, List, [], ◌∷◌, map, Option, Some, None, refl, ap}
use Rattle.std.proofs.Common.{sym, ◌∙◌, subst, arith}
use Rattle.std.specs.Prelude.{Ok, slice_get, sum}
use Rattle.pra_list.proofs.Results.{came_of}
use Rattle.pra_list.specs.Results.{◌>>=◌}
use Rattle.ob_syntax.specs.declared.checked.RArm.{RArm, roll-RArm}
use Rattle.ob_syntax.specs.declared.checked.RExpr.TheVariants as x
use Rattle.ob_syntax.specs.declared.checked.RStmt.{RStmt}
use Rattle.ob_syntax.specs.declared.checked.RStmt.TheVariants as stmts
use Rattle.ob_syntax.specs.declared.checked.Typed.{Typed}
use Rattle.ob_syntax.specs.declared.token.Kind.{Kind}
use Rattle.ob_syntax.specs.declared.tree.Arm.{Arm, roll-Arm, fold-roll-Arm}
use Rattle.ob_syntax.specs.declared.tree.Designator.{roll-Designator, fold-roll-Designator}
use Rattle.ob_syntax.specs.declared.tree.Expr.{Expr, roll-Expr, fold-roll-Expr}
use Rattle.ob_syntax.specs.declared.tree.Factor.{Factor, roll-Factor, fold-roll-Factor}
use Rattle.ob_syntax.specs.declared.tree.FactorForm.{FactorForm, FactorForm-F, fold-FactorForm}
use Rattle.ob_syntax.specs.declared.tree.FactorForm.{fold-roll-FactorForm}
use Rattle.ob_syntax.specs.declared.tree.FactorForm.TheVariants as factors
use Rattle.ob_syntax.specs.declared.tree.NextFactor.{NextFactor, roll-NextFactor}
use Rattle.ob_syntax.specs.declared.tree.NextFactor.{fold-roll-NextFactor}
use Rattle.ob_syntax.specs.declared.tree.NextTerm.{NextTerm, roll-NextTerm, fold-roll-NextTerm}
use Rattle.ob_syntax.specs.declared.tree.Relation.{Relation, roll-Relation, fold-roll-Relation}
use Rattle.ob_syntax.specs.declared.tree.Selector.{Selector, roll-Selector, fold-roll-Selector}
use Rattle.ob_syntax.specs.declared.tree.SelectorForm.{SelectorForm, SelectorForm-F}
use Rattle.ob_syntax.specs.declared.tree.SelectorForm.{fold-SelectorForm, fold-roll-SelectorForm}
use Rattle.ob_syntax.specs.declared.tree.SelectorForm.TheVariants as selectors
use Rattle.ob_syntax.specs.declared.tree.SimpleExpr.{SimpleExpr, roll-SimpleExpr}
use Rattle.ob_syntax.specs.declared.tree.SimpleExpr.{fold-roll-SimpleExpr}
use Rattle.ob_syntax.specs.declared.tree.Span.{Span}
use Rattle.ob_syntax.specs.declared.tree.Stmt.{Stmt, roll-Stmt, fold-roll-Stmt}
use Rattle.ob_syntax.specs.declared.tree.StmtForm.{StmtForm, StmtForm-F, fold-StmtForm}
use Rattle.ob_syntax.specs.declared.tree.StmtForm.{fold-roll-StmtForm}
use Rattle.ob_syntax.specs.declared.tree.StmtForm.TheVariants as forms
use Rattle.ob_syntax.specs.declared.tree.Term.{Term, roll-Term, fold-roll-Term}
use Rattle.ob_syntax.specs.Expressions.{Phrase, Next, Selected, Selection, FactorResult}
use Rattle.ob_syntax.specs.Expressions.{SelectorResult, factor_form, selector_form, designator}
use Rattle.ob_syntax.specs.Expressions.{expr, factor, next_factor, next_term, relation, selector}
use Rattle.ob_syntax.specs.Expressions.{simple_expr, term, integer, boolean, of_type, operator}
use Rattle.ob_syntax.specs.Expressions.{related, chained, signed_term, designated, typed, element}
use Rattle.ob_syntax.specs.Expressions.{expression, simple_expression, whole_term, whole_factor}
use Rattle.ob_syntax.specs.Expressions.{following_term, following_factor, comparison, one_selector}
use Rattle.ob_syntax.specs.Expressions.{name_with_selectors}
use Rattle.ob_syntax.specs.Names.{used}
use Rattle.ob_syntax.specs.Statements.{target, assigned, condition, called, Judge, each, StmtResult}
use Rattle.ob_syntax.specs.Statements.{stmt_form, arm_step, stmt_step, statement, arm}
use Rattle.vc_typed.specs.Nodes.{nodes_in, nodes_in_stmt, nodes_in_arm}
use Rattle.vc_typed.proofs.Bindings.{ok_same}
use Rattle.vc_typed.proofs.ExpressionNodes.{Bounded, Chain, BoundedStep, Selectors, SignAt}
use Rattle.vc_typed.proofs.ExpressionNodes.{of_type_nodes, chained_nodes, signed_nodes}
use Rattle.vc_typed.proofs.ExpressionNodes.{related_nodes, field_nodes, element_nodes}
use Rattle.vc_typed.proofs.ExpressionNodes.{designated_nodes}
use Rattle.vc_typed.proofs.NodeEquations.{nodes-Number, nodes-Not, nodes-If, nodes-While}
use Rattle.vc_typed.proofs.NodeEquations.{nodes-Repeat, nodes_in_arm-is}
use Rattle.vc_typed.proofs.StatementNodes.{BoundedStmt, BoundedArm, Stmts, Arms, Exprs, stmts_nodes}
use Rattle.vc_typed.proofs.StatementNodes.{arms_nodes, target_nodes, assigned_nodes}
use Rattle.vc_typed.proofs.StatementNodes.{condition_nodes, called_nodes}

-- ---- more room

pub bounded_more : (a b : ℕ) (e : Phrase) → a ≤ b → Bounded a e → Bounded b e
bounded_more a b e le few =
    record { few = λ p y is. let one = few.few p y is in omega (arith, le, one) }

pub step_more : (a b : ℕ) (s : Selection) → a ≤ b → BoundedStep a s → BoundedStep b s
step_more a b s le few =
    record { few = λ p t r is. let one = few.few p t r is in omega (arith, le, one) }

pub stmt_more : (a b : ℕ) (j : Judge RStmt) → a ≤ b → BoundedStmt a j → BoundedStmt b j
stmt_more a b j le few =
    record { few = λ p y is. let one = few.few p y is in omega (arith, le, one) }

pub arm_more : (a b : ℕ) (j : Judge RArm) → a ≤ b → BoundedArm a j → BoundedArm b j
arm_more a b j le few = record {
  few = λ p y is. let one = few.few p y is in
      omega (arith, le, one);
}

pub exprs_more : (a b : ℕ) (es : List Expr) → a ≤ b → Exprs a es → Exprs b es
exprs_more a b [] le all = tt
exprs_more a b (e ∷ es) le (k, l, room, one, rest) = (k, l, omega (arith, le, room), one, rest)

-- ---- factors

abbrev factor_of : FactorForm → FactorResult
factor_of =
    fold-FactorForm FactorResult SelectorResult Selected Phrase Phrase Next Next Next
    Selection Phrase Phrase factor_form selector_form designator expr factor next_factor next_term
    relation selector simple_expr term

factor_rolled : (s : Span) (form : FactorForm) (most : ℕ) (result : FactorResult) → factor_of form ≡
    result → Bounded most (record { last = s.last; judge = result s.last }) →
    Bounded most (whole_factor (roll-Factor (record { span = s; form = form })))
factor_rolled s form most result is few =
    subst (Bounded most) (sym
    (fold-roll-Factor FactorResult SelectorResult Selected Phrase Phrase Next Next Next
    Selection Phrase Phrase factor_form selector_form designator expr factor next_factor
    next_term relation selector simple_expr term (record { span = s; form = form })))
    (subst (λ (z : FactorResult). Bounded most (record { last = s.last; judge = z s.last }))
    (sym is) few)

designator_is : (s : Span) (name : ℕ) (ss : List Selector) →
    name_with_selectors (roll-Designator (record { span = s; name = name; selectors = ss })) ≡
    record { name = name; selectors = map one_selector ss }
designator_is s name ss = fold-roll-Designator FactorResult SelectorResult Selected Phrase Phrase
    Next Next Next Selection Phrase Phrase factor_form selector_form designator expr factor
    next_factor next_term relation selector simple_expr term
    (record { span = s; name = name; selectors = ss })

pub name_factor : (s t : Span) (name : ℕ) (ss : List Selector) (most : ℕ) →
    Selectors most (map one_selector ss) →
    Bounded (1 + most) (whole_factor
    (roll-Factor (record {
      span = s;
      form =
          factors.Name (roll-Designator (record { span = t; name = name; selectors = ss }));
    })))
name_factor s t name ss most all =
    let d = roll-Designator (record { span = t; name = name; selectors = ss }) in
    let named : Selected = record { name = name; selectors = map one_selector ss } in
    factor_rolled s (factors.Name d) (1 + most) (factor_form (FactorForm-F.Name named))
    (ap factor_of (sym (factors.rolls-Name d))
    ∙ fold-roll-FactorForm FactorResult SelectorResult Selected Phrase Phrase Next Next Next
    Selection Phrase Phrase factor_form selector_form designator expr factor next_factor
    next_term relation selector simple_expr term (FactorForm-F.Name d)
    ∙ ap (λ z. factor_form (FactorForm-F.Name z)) (designator_is t name ss))
    (record {
      few = λ p y is.
          let of = came_of (used p name) (λ m. designated p named m) y is in
          designated_nodes p named most of.0 y all of.2;
    })

pub number_factor : (s : Span) (n : ℤ) →
    Bounded 1 (whole_factor (roll-Factor (record { span = s; form = factors.Number n })))
number_factor s n =
    factor_rolled s (factors.Number n) 1 (factor_form (FactorForm-F.Number n))
    (ap factor_of (sym (factors.rolls-Number n)) ∙ fold-roll-FactorForm FactorResult SelectorResult
    Selected Phrase Phrase Next Next Next Selection Phrase Phrase factor_form selector_form
    designator expr factor next_factor next_term relation selector simple_expr term
    (FactorForm-F.Number n))
    (record {
      few = λ p y is. let same = ap (λ (z : Typed). nodes_in z.expr)
          (ok_same (typed integer (x.Number n)) y is) in let one = nodes-Number n in
          omega (arith, same, one);
    })

pub paren_factor : (s : Span) (e : Expr) (most : ℕ) → Bounded most (expression e) →
    Bounded most (whole_factor (roll-Factor (record { span = s; form = factors.Paren e })))
paren_factor s e most few =
    factor_rolled s (factors.Paren e) most (factor_form (FactorForm-F.Paren (expression e)))
    (ap factor_of (sym (factors.rolls-Paren e)) ∙ fold-roll-FactorForm FactorResult SelectorResult
    Selected Phrase Phrase Next Next Next Selection Phrase Phrase factor_form selector_form
    designator expr factor next_factor next_term relation selector simple_expr term
    (FactorForm-F.Paren e))
    (record { few = λ p y is. few.few p y is })

pub not_factor : (s : Span) (f : Factor) (most : ℕ) → Bounded most (whole_factor f) →
    Bounded (1 + most) (whole_factor (roll-Factor (record { span = s; form = factors.Not f })))
not_factor s f most few =
    factor_rolled s (factors.Not f) (1 + most) (factor_form (FactorForm-F.Not (whole_factor f)))
    (ap factor_of (sym (factors.rolls-Not f)) ∙ fold-roll-FactorForm FactorResult SelectorResult
    Selected Phrase Phrase Next Next Next Selection Phrase Phrase factor_form selector_form
    designator expr factor next_factor next_term relation selector simple_expr term
    (FactorForm-F.Not f))
    (record {
      few = λ p y is.
          let one = came_of ((whole_factor f).judge p)
          (λ z. of_type 16 boolean (whole_factor f).last z >>= λ truth. Ok
          (typed boolean (x.Not truth))) y is in
          let two = came_of (of_type 16 boolean (whole_factor f).last one.0)
          (λ truth. Ok (typed boolean (x.Not truth))) y one.2 in
          let same = ap (λ (z : Typed). nodes_in z.expr)
          (ok_same (typed boolean (x.Not two.0)) y two.2) in
          let inner = of_type_nodes 16 boolean (whole_factor f).last one.0 two.0 two.1 in
          let le = few.few p one.0 one.1 in
          let whole = nodes-Not two.0 in omega (arith, same, inner, le, whole);
    })

-- ---- selectors

abbrev selector_of : SelectorForm → SelectorResult
selector_of =
    fold-SelectorForm FactorResult SelectorResult Selected Phrase Phrase Next Next Next
    Selection Phrase Phrase factor_form selector_form designator expr factor next_factor next_term
    relation selector simple_expr term

selector_rolled : (s : Span) (form : SelectorForm) (most : ℕ) (result : SelectorResult) →
    selector_of form ≡ result → BoundedStep most (result s.last) →
    BoundedStep most (one_selector (roll-Selector (record { span = s; form = form })))
selector_rolled s form most result is few =
    subst (BoundedStep most)
    (sym (fold-roll-Selector FactorResult SelectorResult Selected Phrase Phrase Next Next Next
    Selection Phrase Phrase factor_form selector_form designator expr factor next_factor
    next_term relation selector simple_expr term (record { span = s; form = form })))
    (subst (λ (z : SelectorResult). BoundedStep most (z s.last)) (sym is) few)

pub field_selector : (s : Span) (k : ℕ) →
    BoundedStep 2 (one_selector (roll-Selector (record { span = s; form = selectors.Field k })))
field_selector s k =
    selector_rolled s (selectors.Field k) 2 (selector_form (SelectorForm-F.Field k))
    (ap selector_of (sym (selectors.rolls-Field k)) ∙ fold-roll-SelectorForm FactorResult
    SelectorResult Selected Phrase Phrase Next Next Next Selection Phrase Phrase factor_form
    selector_form designator expr factor next_factor next_term relation selector simple_expr
    term (SelectorForm-F.Field k))
    (record { few = λ p type_id r is. field_nodes p k type_id (slice_get p.types type_id) r is })

pub index_selector : (s : Span) (e : Expr) (most : ℕ) → Bounded most (expression e) →
    BoundedStep (1 + most) (one_selector
    (roll-Selector (record { span = s; form = selectors.Index e })))
index_selector s e most few =
    selector_rolled s (selectors.Index e) (1 + most)
    (selector_form (SelectorForm-F.Index (expression e)))
    (ap selector_of (sym (selectors.rolls-Index e)) ∙ fold-roll-SelectorForm FactorResult
    SelectorResult Selected Phrase Phrase Next Next Next Selection Phrase Phrase factor_form
    selector_form designator expr factor next_factor next_term relation selector simple_expr
    term (SelectorForm-F.Index e))
    (record {
      few = λ p type_id r is.
          let one = came_of ((expression e).judge p)
          (λ index. of_type 14 integer (expression e).last index >>= λ number. element s.last
          number (slice_get p.types type_id)) r is in
          let two = came_of (of_type 14 integer (expression e).last one.0)
          (λ number. element s.last number (slice_get p.types type_id)) r one.2 in
          let inner = of_type_nodes 14 integer (expression e).last one.0 two.0 two.1 in
          let le = few.few p one.0 one.1 in
          let whole = element_nodes s.last two.0 (slice_get p.types type_id) r two.2 in
          omega (arith, inner, le, whole);
    })

-- ---- chains of operators

pub following_factor_is : (o : Kind) (f : Factor) →
    following_factor (roll-NextFactor (record { op = o; factor = f })) ≡
    (operator o, whole_factor f)
following_factor_is o f = fold-roll-NextFactor FactorResult SelectorResult Selected Phrase Phrase
    Next Next Next Selection Phrase Phrase factor_form selector_form designator expr factor
    next_factor next_term relation selector simple_expr term (record { op = o; factor = f })

pub following_term_is : (o : Kind) (t : Term) →
    following_term (roll-NextTerm (record { op = o; term = t })) ≡ (operator o, whole_term t)
following_term_is o t = fold-roll-NextTerm FactorResult SelectorResult Selected Phrase Phrase Next
    Next Next Selection Phrase Phrase factor_form selector_form designator expr factor next_factor
    next_term relation selector simple_expr term (record { op = o; term = t })

pub comparison_is : (o : Kind) (e : SimpleExpr) →
    comparison (roll-Relation (record { op = o; right = e })) ≡ (operator o, simple_expression e)
comparison_is o e = fold-roll-Relation FactorResult SelectorResult Selected Phrase Phrase Next Next
    Next Selection Phrase Phrase factor_form selector_form designator expr factor next_factor
    next_term relation selector simple_expr term (record { op = o; right = e })

pub term_phrase : (s : Span) (f : Factor) (fs : List NextFactor) (k l : ℕ) →
    Bounded k (whole_factor f) → Chain l (map following_factor fs) →
    Bounded (k + l) (whole_term (roll-Term (record { span = s; first = f; rest = fs })))
term_phrase s f fs k l one rest =
    subst (Bounded (k + l)) (sym
    (fold-roll-Term FactorResult SelectorResult Selected Phrase Phrase Next Next Next Selection
    Phrase Phrase factor_form selector_form designator expr factor next_factor next_term
    relation selector simple_expr term (record { span = s; first = f; rest = fs })))
    (record {
      few = λ p y is.
          let of = came_of ((whole_factor f).judge p)
          (λ z. chained p (whole_factor f).last z (map following_factor fs)) y is in
          let le = one.few p of.0 of.1 in
          let more = chained_nodes p (whole_factor f).last of.0 (map following_factor fs) l y rest
          of.2 in omega (arith, le, more);
    })

pub simple_phrase : (s : Span) (sign : Option Kind) (t : Term) (ts : List NextTerm) (i k l : ℕ) →
    SignAt i sign → Bounded k (whole_term t) → Chain l (map following_term ts)
    → Bounded (i + k + l) (simple_expression
    (roll-SimpleExpr (record { span = s; sign = sign; first = t; rest = ts })))
simple_phrase s sign t ts i k l room one rest =
    subst (Bounded (i + k + l))
    (sym (fold-roll-SimpleExpr FactorResult SelectorResult Selected Phrase Phrase Next Next Next
    Selection Phrase Phrase factor_form selector_form designator expr factor next_factor
    next_term relation selector simple_expr term
    (record { span = s; sign = sign; first = t; rest = ts })))
    (record {
      few = λ p y is.
          let f = whole_term t in
          let first = came_of (f.judge p)
          (λ z. signed_term sign f.last z >>= λ left. chained p f.last left
          (map following_term ts)) y is in
          let second = came_of (signed_term sign f.last first.0)
          (λ left. chained p f.last left (map following_term ts)) y first.2 in
          let le = one.few p first.0 first.1 in
          let signed = signed_nodes sign f.last i first.0 second.0 room second.1 in
          let more = chained_nodes p f.last second.0 (map following_term ts) l y rest second.2 in
          omega (arith, le, signed, more);
    })

abbrev pub ComparisonAt : ℕ → Option Relation → Type 0
ComparisonAt most None = Unit {0}
ComparisonAt most (Some r) = (k : ℕ) × (k + 1 ≤ most) × Bounded k (comparison r).1

pub expression_phrase : (s : Span) (e : SimpleExpr) (r : Option Relation) (k l : ℕ) →
    Bounded k (simple_expression e) → ComparisonAt l r →
    Bounded (k + l) (expression (roll-Expr (record { span = s; left = e; relation = r })))
expression_phrase s e None k l one other =
    subst (Bounded (k + l)) (sym
    (fold-roll-Expr FactorResult SelectorResult Selected Phrase Phrase Next Next Next Selection
    Phrase Phrase factor_form selector_form designator expr factor next_factor next_term
    relation selector simple_expr term (record { span = s; left = e; relation = None })))
    (record {
      few = λ p y is.
          let of = came_of ((simple_expression e).judge p) (λ z. Ok z) y is in
          let same = ap (λ (z : Typed). nodes_in z.expr) (ok_same of.0 y of.2) in
          let le = one.few p of.0 of.1 in omega (arith, le, same);
    })
expression_phrase s e (Some r) k l one (j, room, few) =
    subst (Bounded (k + l)) (sym
    (fold-roll-Expr FactorResult SelectorResult Selected Phrase Phrase Next Next Next Selection
    Phrase Phrase factor_form selector_form designator expr factor next_factor next_term
    relation selector simple_expr term (record { span = s; left = e; relation = Some r })))
    (record {
      few = λ p y is.
          let of = came_of ((simple_expression e).judge p)
          (λ z. related p (simple_expression e).last z (comparison r)) y is in
          let le = one.few p of.0 of.1 in
          let both = related_nodes p (simple_expression e).last of.0 (comparison r).0
          (comparison r).1 j y few of.2 in omega (arith, le, both, room);
    })

-- ---- statements

abbrev form_of : StmtForm → StmtResult
form_of = fold-StmtForm StmtResult (Judge RArm) (Judge RStmt) stmt_form arm_step stmt_step

stmt_rolled : (s : Span) (form : StmtForm) (most : ℕ) (result : StmtResult) → form_of form ≡
    result → BoundedStmt most (result s.last) →
    BoundedStmt most (statement (roll-Stmt (record { span = s; form = form })))
stmt_rolled s form most result is few =
    subst (BoundedStmt most)
    (sym (fold-roll-Stmt StmtResult (Judge RArm) (Judge RStmt) stmt_form arm_step stmt_step
    (record { span = s; form = form })))
    (subst (λ (z : StmtResult). BoundedStmt most (z s.last)) (sym is) few)

pub assign_statement : (s t : Span) (name : ℕ) (ss : List Selector) (e : Expr) (k l : ℕ) →
    Selectors k (map one_selector ss) → Bounded l (expression e)
    → BoundedStmt (1 + k + 1 + l)
    (statement (roll-Stmt (record {
      span = s;
      form = forms.Assign
          (roll-Designator (record { span = t; name = name; selectors = ss })) e;
    })))
assign_statement s t name ss e k l all few =
    let d = roll-Designator (record { span = t; name = name; selectors = ss }) in
    let n = name_with_selectors d in
    let here : Selectors k n.selectors = subst (λ (z : Selected). Selectors k z.selectors)
    (sym (designator_is t name ss)) all in
    stmt_rolled s (forms.Assign d e) (1 + k + 1 + l) (stmt_form (StmtForm-F.Assign d e))
    (ap form_of (sym (forms.rolls-Assign d e)) ∙ fold-roll-StmtForm StmtResult (Judge RArm)
    (Judge RStmt) stmt_form arm_step stmt_step (StmtForm-F.Assign d e))
    (record {
      few = λ p y is.
          let one = came_of (used p n.name)
          (λ m. target p n m >>= λ v. (expression e).judge p >>= λ value. assigned s.last v
          value) y is in
          let two = came_of (target p n one.0)
          (λ v. (expression e).judge p >>= λ value. assigned s.last v value) y one.2 in
          let three = came_of ((expression e).judge p) (λ value. assigned s.last two.0 value) y
          two.2 in
          let left = target_nodes p n k one.0 two.0 here two.1 in
          let right = few.few p three.0 three.1 in
          let whole = assigned_nodes s.last two.0 three.0 y three.2 in
          omega (arith, left, right, whole);
    })

pub call_statement : (s : Span) (name : ℕ) (es : List Expr) (most : ℕ) → Exprs most es →
    BoundedStmt (1 + most) (statement (roll-Stmt (record { span = s; form = forms.Call name es })))
call_statement s name es most all =
    stmt_rolled s (forms.Call name es) (1 + most) (stmt_form (StmtForm-F.Call name es))
    (ap form_of (sym (forms.rolls-Call name es)) ∙ fold-roll-StmtForm StmtResult (Judge RArm)
    (Judge RStmt) stmt_form arm_step stmt_step (StmtForm-F.Call name es))
    (record {
      few = λ p y is. let of = came_of (used p name) (λ m. called p s.last name m es) y
          is in called_nodes p s.last name of.0 es most y all of.2;
    })

no_statements : sum (map nodes_in_stmt []) ≡ 0
no_statements = refl

no_arms : sum (map nodes_in_arm []) ≡ 0
no_arms = refl

pub if_statement : (s : Span) (arms : List Arm) (other : List Stmt) (k l : ℕ) →
    Arms k (map arm arms) → Stmts l (map statement other) →
    BoundedStmt (k + l) (statement (roll-Stmt (record { span = s; form = forms.If arms other })))
if_statement s arms other k l first second =
    stmt_rolled s (forms.If arms other) (k + l)
    (stmt_form (StmtForm-F.If (map arm arms) (map statement other)))
    (ap form_of (sym (forms.rolls-If arms other)) ∙ fold-roll-StmtForm StmtResult (Judge RArm)
    (Judge RStmt) stmt_form arm_step stmt_step (StmtForm-F.If arms other))
    (record {
      few = λ p y is.
          let one = came_of (each p [] (map arm arms))
          (λ choices. each p [] (map statement other) >>= λ otherwise. Ok
          (stmts.If choices otherwise)) y is in
          let two = came_of (each p [] (map statement other))
          (λ otherwise. Ok (stmts.If one.0 otherwise)) y one.2 in
          let same = ap nodes_in_stmt (ok_same (stmts.If one.0 two.0) y two.2) in
          let left = arms_nodes p (map arm arms) k [] one.0 first one.1 in
          let right = stmts_nodes p (map statement other) l [] two.0 second two.1 in
          let whole = nodes-If one.0 two.0 in
          omega (arith, same, left, right, whole, no_arms, no_statements);
    })

pub while_statement : (s : Span) (test : Expr) (body : List Stmt) (k l : ℕ) →
    Bounded k (expression test) → Stmts l (map statement body) →
    BoundedStmt (1 + k + l) (statement
    (roll-Stmt (record { span = s; form = forms.While test body })))
while_statement s test body k l first second =
    stmt_rolled s (forms.While test body) (1 + k + l)
    (stmt_form (StmtForm-F.While test (map statement body)))
    (ap form_of (sym (forms.rolls-While test body)) ∙ fold-roll-StmtForm StmtResult (Judge RArm)
    (Judge RStmt) stmt_form arm_step stmt_step (StmtForm-F.While test body))
    (record {
      few = λ p y is.
          let one = came_of (condition p test)
          (λ c. each p [] (map statement body) >>= λ turn. Ok (stmts.While c turn)) y is in
          let two = came_of (each p [] (map statement body)) (λ turn. Ok (stmts.While one.0 turn)) y
          one.2 in
          let same = ap nodes_in_stmt (ok_same (stmts.While one.0 two.0) y two.2) in
          let left = condition_nodes p test k one.0 first one.1 in
          let right = stmts_nodes p (map statement body) l [] two.0 second two.1 in
          let whole = nodes-While one.0 two.0 in
          omega (arith, same, left, right, whole, no_statements);
    })

pub repeat_statement : (s : Span) (body : List Stmt) (test : Expr) (k l : ℕ) →
    Stmts k (map statement body) → Bounded l (expression test) →
    BoundedStmt (1 + k + l) (statement
    (roll-Stmt (record { span = s; form = forms.Repeat body test })))
repeat_statement s body test k l first second =
    stmt_rolled s (forms.Repeat body test) (1 + k + l)
    (stmt_form (StmtForm-F.Repeat (map statement body) test))
    (ap form_of (sym (forms.rolls-Repeat body test)) ∙ fold-roll-StmtForm StmtResult (Judge RArm)
    (Judge RStmt) stmt_form arm_step stmt_step (StmtForm-F.Repeat body test))
    (record {
      few = λ p y is.
          let one = came_of (each p [] (map statement body))
          (λ turn. condition p test >>= λ c. Ok (stmts.Repeat turn c)) y is in
          let two = came_of (condition p test) (λ c. Ok (stmts.Repeat one.0 c)) y one.2 in
          let same = ap nodes_in_stmt (ok_same (stmts.Repeat one.0 two.0) y two.2) in
          let left = stmts_nodes p (map statement body) k [] one.0 first one.1 in
          let right = condition_nodes p test l two.0 second two.1 in
          let whole = nodes-Repeat one.0 two.0 in
          omega (arith, same, left, right, whole, no_statements);
    })

pub arm_phrase : (test : Expr) (body : List Stmt) (k l : ℕ) → Bounded k (expression test) →
    Stmts l (map statement body) →
    BoundedArm (1 + k + l) (arm (roll-Arm (record { test = test; body = body })))
arm_phrase test body k l first second =
    subst (BoundedArm (1 + k + l))
    (sym (fold-roll-Arm StmtResult (Judge RArm) (Judge RStmt) stmt_form arm_step stmt_step
    (record { test = test; body = body })))
    (record {
      few = λ p y is.
          let one = came_of (condition p test)
          (λ c. each p [] (map statement body) >>= λ turn. Ok
          (roll-RArm (record { test = c; body = turn }))) y is in
          let two = came_of (each p [] (map statement body))
          (λ turn. Ok (roll-RArm (record { test = one.0; body = turn }))) y one.2 in
          let same = ap nodes_in_arm
          (ok_same (roll-RArm (record { test = one.0; body = two.0 })) y two.2) in
          let left = condition_nodes p test k one.0 first one.1 in
          let right = stmts_nodes p (map statement body) l [] two.0 second two.1 in
          let whole = nodes_in_arm-is one.0 two.0 in
          omega (arith, same, left, right, whole, no_statements);
    })
