-- What the statements of a body are read as has at most the nodes that tokens of the body are,
-- where
-- tokens derive the tree.
use Rattle.std.proofs.Common.{◌≡◌, ℕ, zero, suc, ◌+◌, ◌-◌, ◌<◌, ◌≤◌, Bool, true, false, List, []}
use Rattle.std.proofs.Common.{◌∷◌, ◌++◌, length, map, take, drop, Option, Some, None, refl, ap, sym}
use Rattle.std.proofs.Common.{◌∙◌, subst, arith, length-append}
use Rattle.std.specs.Prelude.{count_by, option_to_list, if◌then◌else◌}
use Rattle.std.proofs.lemmas.List.{append-nil, append_assoc}
use Rattle.std.proofs.lemmas.List.Sums.{sum_by-cons}
use Rattle.pra_list.proofs.Elements.{head_same, tail_same}
use Rattle.ob_syntax.specs.declared.token.Kind.{Kind}
use Rattle.ob_syntax.specs.declared.token.Token.{Token}
use Rattle.ob_syntax.specs.declared.tree.Arm.{Arm as ArmTree}
use Rattle.ob_syntax.specs.declared.tree.Decls.{fold-roll-Decls}
use Rattle.ob_syntax.specs.declared.tree.Proc.{fold-roll-Proc}
use Rattle.ob_syntax.specs.declared.tree.Stmt.{Stmt, Stmt-F, roll-Stmt, out-Stmt, out-roll-Stmt}
use Rattle.ob_syntax.specs.declared.tree.StmtForm.{StmtForm}
use Rattle.ob_syntax.specs.declared.tree.StmtForm.TheVariants as forms
use Rattle.ob_syntax.specs.declared.tree.Designator.{roll-Designator}
use Rattle.ob_syntax.specs.Grammar.{Nonterminal, Selectors, Selector, Factor, Factors, Term, Terms}
use Rattle.ob_syntax.specs.Grammar.{Sign, SimpleExpression, Comparison, Expression, ArgumentList}
use Rattle.ob_syntax.specs.Grammar.{Arguments, ActualParameters, Arm, Elsifs, Arms, Else, Action}
use Rattle.ob_syntax.specs.Grammar.{Statement, Statements, StatementSequence, Procedure, Procedures}
use Rattle.ob_syntax.specs.Grammar.{Declarations, Body, Module, MulOp, AddOp, RelationOp, mul_kind}
use Rattle.ob_syntax.specs.Grammar.{add_kind, relation_kind, Symbol, token, phrase, Rule}
use Rattle.ob_syntax.specs.Grammar.{no_selectors, next_selector, field, index, name, number}
use Rattle.ob_syntax.specs.Grammar.{parenthesis, negation, no_factors, next_factor, term, no_terms}
use Rattle.ob_syntax.specs.Grammar.{next_term, no_sign, plus_sign, minus_sign, simple_expression}
use Rattle.ob_syntax.specs.Grammar.{no_comparison, comparison, expression, no_arguments, arguments}
use Rattle.ob_syntax.specs.Grammar.{last_argument, next_argument, no_parameters, parameters, arm}
use Rattle.ob_syntax.specs.Grammar.{no_elsif, next_elsif, arms, no_else, otherwise, assignment}
use Rattle.ob_syntax.specs.Grammar.{call, if_statement, while_statement, repeat_statement}
use Rattle.ob_syntax.specs.Grammar.{empty_statement, statement, last_statement, next_statement}
use Rattle.ob_syntax.specs.Grammar.{statement_sequence, procedure, no_procedures, next_procedure}
use Rattle.ob_syntax.specs.Grammar.{declarations, no_body, body, a_module, right}
use Rattle.ob_syntax.specs.Grammar as g
use Rattle.ob_syntax.specs.Declarations.{is_node, span_nodes, nodes_of}
use Rattle.ob_syntax.specs.Derives.{text, texts}
use Rattle.ob_syntax.specs.Expressions.{Next, whole_factor, whole_term, following_factor}
use Rattle.ob_syntax.specs.Expressions.{following_term, expression as read_expression}
use Rattle.ob_syntax.specs.Expressions.{simple_expression as read_simple, one_selector}
use Rattle.ob_syntax.specs.Forms.{Form, Parts, made, done, taken, part, end, ends}
use Rattle.ob_syntax.specs.Statements.{statement as read_statement, arm as read_arm}
use Rattle.ob_syntax.specs.Tree.{Tree, Values, tree, values, tree_by, span_to}
use Rattle.ob_syntax.specs.WellFormed.{joined}
use Rattle.ob_syntax.specs.Whole.{kinds}
use Rattle.ob_syntax.proofs.FormsAdvance.{all_stay}
use Rattle.vc_typed.proofs.ExpressionNodes as nodes
use Rattle.vc_typed.proofs.ExpressionNodes.{Bounded, Chain, BoundedStep, SignAt}
use Rattle.vc_typed.proofs.PhraseNodes.{bounded_more, step_more, stmt_more, arm_more, exprs_more}
use Rattle.vc_typed.proofs.PhraseNodes.{name_factor, number_factor, paren_factor, not_factor}
use Rattle.vc_typed.proofs.PhraseNodes.{field_selector, index_selector, following_factor_is}
use Rattle.vc_typed.proofs.PhraseNodes.{following_term_is, comparison_is, term_phrase}
use Rattle.vc_typed.proofs.PhraseNodes.{simple_phrase, ComparisonAt, expression_phrase}
use Rattle.vc_typed.proofs.PhraseNodes.{assign_statement, call_statement, arm_phrase}
use Rattle.vc_typed.proofs.PhraseNodes as phrases
use Rattle.vc_typed.proofs.TreeBodies.{decls_bodies, proc_bodies, bodies_in, bodies_of}
use Rattle.vc_typed.proofs.StatementNodes as stmts
use Rattle.vc_typed.proofs.StatementNodes.{BoundedStmt, BoundedArm, Stmts, Exprs}

-- ---- tokens

-- how many of them are nodes
abbrev kind_nodes : Kind → ℕ
kind_nodes k = if is_node k then 1 else 0

abbrev marks : List Kind → ℕ
marks [] = 0
marks (k ∷ ks) = kind_nodes k + marks ks

marks-append : (xs ys : List Kind) → marks (xs ++ ys) ≡ marks xs + marks ys
marks-append [] ys = omega arith
marks-append (x ∷ xs) ys = let rest = marks-append xs ys in omega (arith, rest)

front_nodes : (ks more : List Kind) (ts : List Token) → kinds ts ≡ ks ++ more →
    count_by (λ t. is_node t.kind) (take (length ks) ts) ≡ marks ks
front_nodes [] more ts is = refl
front_nodes (k ∷ ks) more [] is = absurd (cc)
front_nodes (k ∷ ks) more (t ∷ ts) is =
    sum_by-cons (λ t. if is_node t.kind then 1 else 0) t (take (length ks) ts)
    ∙ ap (λ z. kind_nodes z + count_by (λ t. is_node t.kind) (take (length ks) ts))
    (head_same t.kind k (kinds ts) (ks ++ more) is)
    ∙ ap (λ n. kind_nodes k + n)
    (front_nodes ks more ts (tail_same t.kind k (kinds ts) (ks ++ more) is))

kinds-drop : (i : ℕ) (ts : List Token) → kinds (drop i ts) ≡ drop i (kinds ts)
kinds-drop zero ts = refl
kinds-drop (suc i) [] = refl
kinds-drop (suc i) (t ∷ ts) = kinds-drop i ts

drop_next : (xs : List Kind) (i : ℕ) (k : Kind) (rest : List Kind) → drop i xs ≡ k ∷ rest →
    drop (i + 1) xs ≡ rest
drop_next [] zero k rest is = absurd (cc)
drop_next [] (suc i) k rest is = absurd (cc)
drop_next (x ∷ xs) zero k rest is = tail_same x k xs rest is
drop_next (x ∷ xs) (suc i) k rest is = let same : suc (i + 1) ≡ suc i + 1 = omega arith in
    subst (λ j. drop j (x ∷ xs) ≡ rest) same (drop_next xs i k rest is)

drop_behind : (ks xs : List Kind) (i : ℕ) (rest : List Kind) → drop i xs ≡ ks ++ rest →
    drop (i + length ks) xs ≡ rest
drop_behind [] xs i rest is = subst (λ j. drop j xs ≡ rest) (omega arith) is
drop_behind (k ∷ ks) xs i rest is = subst (λ j. drop j xs ≡ rest) (omega arith)
    (drop_behind ks xs (i + 1) rest (drop_next xs i k (ks ++ rest) is))

mutual
  end_is : (n : Nonterminal) (i : ℕ) (f : Form n) → end n i f ≡ i + length (text n f)
  end_is n i (made _ r ps) = ends_are (right r) i ps

  ends_are : (ss : List Symbol) (i : ℕ) (ps : Parts ss) → ends ss i ps ≡ i + length (texts ss ps)
  ends_are _ i done = omega arith
  ends_are _ i (taken k ss ps) = let rest = ends_are ss (i + 1) ps in omega (arith, rest)
  ends_are _ i (part d m ss f ps) =
      let first = end_is m i f in
      let rest = ends_are ss (end m i f) ps in
      let both = length-append (text m f) (texts ss ps) in omega (arith, first, rest, both)

span_count : (tokens : List Token) (i j : ℕ) (ks more : List Kind) → drop i (kinds tokens) ≡ ks
    ++ more → j ≡ i + length ks → i < j → span_nodes tokens (span_to i j) ≡ marks ks
span_count tokens i j ks more is at lt =
    ap (λ n. count_by (λ t. is_node t.kind) (take n (drop i tokens))) (width i j (length ks) at lt)
    ∙ front_nodes ks more (drop i tokens) (kinds-drop i tokens ∙ is)
  where
    width : (i j n : ℕ) → j ≡ i + n → i < j → j - 1 + 1 - i ≡ n
    width i j n at lt = omega (arith, at, lt)

-- a right side that begins with a token
abbrev begins_with_token : List Symbol → Bool
begins_with_token [] = false
begins_with_token (token k ∷ ss) = true
begins_with_token (phrase d m ∷ ss) = false

some_tokens : (ss : List Symbol) (i : ℕ) (ps : Parts ss) → begins_with_token ss ≡ true →
    i < ends ss i ps
some_tokens _ i done is = absurd (cc)
some_tokens _ i (taken k ss ps) is = let le = all_stay ss (i + 1) ps in omega (arith, le)
some_tokens _ i (part d m ss f ps) is = absurd (cc)

mul_node : (o : MulOp) → kind_nodes (mul_kind o) ≡ 1
mul_node g.times = refl
mul_node g.quotient = refl
mul_node g.remainder = refl
mul_node g.both = refl

add_node : (o : AddOp) → kind_nodes (add_kind o) ≡ 1
add_node g.plus = refl
add_node g.minus = refl
add_node g.either = refl

relation_node : (o : RelationOp) → kind_nodes (relation_kind o) ≡ 1
relation_node g.equal = refl
relation_node g.unequal = refl
relation_node g.less = refl
relation_node g.less_equal = refl
relation_node g.greater = refl
relation_node g.greater_equal = refl

module _ (tokens : List Token) where
  -- ---- statements, whose spans have as many nodes as they are counted with

  abbrev StmtAt : ℕ → Stmt → Type 0
  StmtAt count t = BoundedStmt count (read_statement t) ×
      (span_nodes tokens (out-Stmt t).span ≡ count)

  abbrev BodyAt : ℕ → List Stmt → Type 0
  BodyAt most [] = Unit {0}
  BodyAt most (t ∷ ts) = (k : ℕ) × (l : ℕ) × (k + l ≤ most) × StmtAt k t × BodyAt l ts

  abbrev OptionAt : ℕ → Option Stmt → Type 0
  OptionAt count None = Unit {0}
  OptionAt count (Some t) = StmtAt count t

  body_more : (a b : ℕ) (ts : List Stmt) → a ≤ b → BodyAt a ts → BodyAt b ts
  body_more a b [] le all = tt
  body_more a b (t ∷ ts) le (k, l, room, one, rest) = (k, l, omega (arith, le, room), one, rest)

  body_first : (k l most : ℕ) (t : Option Stmt) (ts : List Stmt) → k + l ≤ most → OptionAt k t →
      BodyAt l ts → BodyAt most (option_to_list t ++ ts)
  body_first k l most None ts room one rest = body_more l most ts (omega (arith, room)) rest
  body_first k l most (Some t) ts room one rest = (k, l, room, one, rest)

  body_stmts : (most : ℕ) (ts : List Stmt) → BodyAt most ts → Stmts most (map read_statement ts)
  body_stmts most [] all = tt
  body_stmts most (t ∷ ts) (k, l, room, one, rest) = (k, l, room, one.0, body_stmts l ts rest)

  -- as many as the nodes of the body
  body_exact : (most : ℕ) (ts : List Stmt) → BodyAt most ts →
      Stmts (nodes_of tokens ts) (map read_statement ts)
  body_exact most [] all = tt
  body_exact most (t ∷ ts) (k, l, room, one, rest) = (
    k,
    nodes_of tokens ts,
    (let same = one.1 in omega (arith, same)),
    one.0,
    body_exact l ts rest,
  )

  abbrev pub AllStand : List (List Stmt) → Type 0
  AllStand [] = Unit {0}
  AllStand (b ∷ bs) = Stmts (nodes_of tokens b) (map read_statement b) × AllStand bs

  stand_append : (xs ys : List (List Stmt)) → AllStand xs → AllStand ys → AllStand (xs ++ ys)
  stand_append [] ys all more = more
  stand_append (x ∷ xs) ys (one, rest) more = (one, stand_append xs ys rest more)

  -- a statement of a span that has so many nodes
  spanned : (count k i j : ℕ) (form : StmtForm) → k ≤ count → span_nodes tokens (span_to i j) ≡
      count → BoundedStmt k (read_statement
      (roll-Stmt (record { span = span_to i j; form = form }))) →
      StmtAt count (roll-Stmt (record { span = span_to i j; form = form }))
  spanned count k i j form le is few =
      let t = roll-Stmt (record { span = span_to i j; form = form }) in (
        stmt_more k count (read_statement t) le few,
        ap (λ (z : Stmt-F StmtForm ArmTree Stmt). span_nodes tokens z.span)
            (out-roll-Stmt (record { span = span_to i j; form = form })) ∙ is,
      )

  -- ---- what holds of a phrase with so many nodes

  abbrev At : (n : Nonterminal) → Tree n → ℕ → Type 0
  At Selectors t c = nodes.Selectors c (map one_selector t)
  At Selector t c = BoundedStep c (one_selector t)
  At Factor t c = Bounded c (whole_factor t)
  At Factors t c = Chain c (map following_factor t)
  At Term t c = Bounded c (whole_term t)
  At Terms t c = Chain c (map following_term t)
  At Sign t c = SignAt c t
  At SimpleExpression t c = Bounded c (read_simple t)
  At Comparison t c = ComparisonAt c t
  At Expression t c = Bounded c (read_expression t)
  At ArgumentList t c = Exprs c t
  At Arguments t c = Exprs c t
  At ActualParameters t c = Exprs c t
  -- IF or ELSIF is in front of an arm
  At Arm t c = BoundedArm (1 + c) (read_arm t)
  At Elsifs t c = stmts.Arms c (map read_arm t)
  At Arms t c = stmts.Arms (1 + c) (map read_arm t)
  At Else t c = BodyAt c t
  At Action t c = StmtAt c t
  At Statement t c = OptionAt c t
  At Statements t c = BodyAt c t
  At StatementSequence t c = BodyAt c t
  At Body t c = BodyAt c t
  At Procedure t c = AllStand (bodies_of t)
  At Procedures t c = AllStand (joined (map bodies_of t))
  At Declarations t c = AllStand (bodies_in t)
  At Module t c = AllStand (t.body ∷ bodies_in t.decls)
  At _ t c = Unit {0}

  abbrev Holds : (ss : List Symbol) → Values ss → Type 0
  Holds [] v = Unit {0}
  Holds (token k ∷ ss) v = Holds ss v.1
  Holds (phrase d m ∷ ss) v = (c : ℕ) × At m v.0 c × Holds ss v.1

  abbrev total : (ss : List Symbol) (v : Values ss) → Holds ss v → ℕ
  total [] v h = 0
  total (token k ∷ ss) v h = kind_nodes k + total ss v.1 h
  total (phrase d m ∷ ss) v h = h.0 + total ss v.1 h.2

  rule_counts : (n : Nonterminal) (r : Rule n) (i j : ℕ) (v : Values (right r))
      (h : Holds (right r) v) →
      (begins_with_token (right r) ≡ true → span_nodes tokens (span_to i j) ≡ total (right r) v h) →
      At n (tree_by r i j v) (total (right r) v h)
  rule_counts _ no_selectors i j v h span = tt
  rule_counts _ next_selector i j v h span = (h.0, h.2.0, omega arith, h.1, h.2.1)
  rule_counts _ field i j v h span = field_selector (span_to i j) v.1.0
  rule_counts _ index i j v h span = step_more (1 + h.0) (1 + (h.0 + (0 + 0))) _ (omega arith)
      (index_selector (span_to i j) v.1.0 h.0 h.1)
  rule_counts _ name i j v h span = bounded_more (1 + h.0) (1 + (h.0 + 0)) _ (omega arith)
      (name_factor (span_to i j) (span_to i j) v.0 v.1.0 h.0 h.1)
  rule_counts _ (number n) i j v h span = number_factor (span_to i j) n
  rule_counts _ parenthesis i j v h span = bounded_more h.0 (0 + (h.0 + (0 + 0))) _ (omega arith)
      (paren_factor (span_to i j) v.1.0 h.0 h.1)
  rule_counts _ negation i j v h span = bounded_more (1 + h.0) (1 + (h.0 + 0)) _ (omega arith)
      (not_factor (span_to i j) v.1.0 h.0 h.1)
  rule_counts _ no_factors i j v h span = tt
  rule_counts _ (next_factor op) i j v h span =
      let one = mul_node op in (
        h.0,
        h.2.0,
        omega (arith, one),
        subst (λ (n : Next). Bounded h.0 n.1)
            (sym (following_factor_is (mul_kind op) v.1.0)) h.1,
        h.2.1,
      )
  rule_counts _ term i j v h span = bounded_more (h.0 + h.2.0) (h.0 + (h.2.0 + 0)) _ (omega arith)
      (term_phrase (span_to i j) v.0 v.1.0 h.0 h.2.0 h.1 h.2.1)
  rule_counts _ no_terms i j v h span = tt
  rule_counts _ (next_term op) i j v h span =
      let one = add_node op in (
        h.0,
        h.2.0,
        omega (arith, one),
        subst (λ (n : Next). Bounded h.0 n.1)
            (sym (following_term_is (add_kind op) v.1.0)) h.1,
        h.2.1,
      )
  rule_counts _ no_sign i j v h span = tt
  rule_counts _ plus_sign i j v h span = omega arith
  rule_counts _ minus_sign i j v h span = omega arith
  rule_counts _ simple_expression i j v h span =
      bounded_more (h.0 + h.2.0 + h.2.2.0) (h.0 + (h.2.0 + (h.2.2.0 + 0))) _ (omega arith)
      (simple_phrase (span_to i j) v.0 v.1.0 v.1.1.0 h.0 h.2.0 h.2.2.0 h.1 h.2.1 h.2.2.1)
  rule_counts _ no_comparison i j v h span = tt
  rule_counts _ (comparison op) i j v h span =
      let one = relation_node op in (
        h.0,
        omega (arith, one),
        subst (λ (n : Next). Bounded h.0 n.1)
            (sym (comparison_is (relation_kind op) v.1.0)) h.1,
      )
  rule_counts _ expression i j v h span = bounded_more (h.0 + h.2.0) (h.0 + (h.2.0 + 0)) _
      (omega arith) (expression_phrase (span_to i j) v.0 v.1.0 h.0 h.2.0 h.1 h.2.1)
  rule_counts _ no_arguments i j v h span = tt
  rule_counts _ arguments i j v h span = (h.0, h.2.0, omega arith, h.1, h.2.1)
  rule_counts _ last_argument i j v h span = tt
  rule_counts _ next_argument i j v h span = (h.0, h.2.0, omega arith, h.1, h.2.1)
  rule_counts _ no_parameters i j v h span = tt
  rule_counts _ parameters i j v h span = exprs_more h.0 (0 + (h.0 + (0 + 0))) v.1.0 (omega arith)
      h.1
  rule_counts _ arm i j v h span =
      arm_more (1 + h.0 + h.2.0) (1 + (h.0 + (0 + (h.2.0 + 0)))) _ (omega arith)
      (arm_phrase v.0 v.1.1.0 h.0 h.2.0 h.1 (body_stmts h.2.0 v.1.1.0 h.2.1))
  rule_counts _ no_elsif i j v h span = tt
  rule_counts _ next_elsif i j v h span = (1 + h.0, h.2.0, omega arith, h.1, h.2.1)
  rule_counts _ arms i j v h span = (1 + h.0, h.2.0, omega arith, h.1, h.2.1)
  rule_counts _ no_else i j v h span = tt
  rule_counts _ otherwise i j v h span = body_more h.0 (0 + (h.0 + 0)) v.1.0 (omega arith) h.1
  rule_counts _ assignment i j v h span =
      spanned (1 + (h.0 + (1 + (h.2.0 + 0)))) (1 + h.0 + 1 + h.2.0) i j
      (forms.Assign (roll-Designator
      (record { span = span_to i v.1.1.0; name = v.0; selectors = v.1.0 })) v.1.1.1.0)
      (omega arith) (span refl)
      (assign_statement (span_to i j) (span_to i v.1.1.0) v.0 v.1.0 v.1.1.1.0 h.0 h.2.0 h.1 h.2.1)
  rule_counts _ call i j v h span = spanned (1 + (h.0 + 0)) (1 + h.0) i j (forms.Call v.0 v.1.0)
      (omega arith) (span refl) (call_statement (span_to i j) v.0 v.1.0 h.0 h.1)
  rule_counts _ if_statement i j v h span =
      spanned (1 + (h.0 + (h.2.0 + (0 + 0)))) (1 + h.0 + h.2.0) i j (forms.If v.1.0 v.1.1.0)
      (omega arith) (span refl)
      (phrases.if_statement (span_to i j) v.1.0 v.1.1.0 (1 + h.0) h.2.0 h.1
      (body_stmts h.2.0 v.1.1.0 h.2.1))
  rule_counts _ while_statement i j v h span =
      spanned (1 + (h.0 + (0 + (h.2.0 + (0 + 0))))) (1 + h.0 + h.2.0) i j
      (forms.While v.1.0 v.1.1.1.0) (omega arith) (span refl)
      (phrases.while_statement (span_to i j) v.1.0 v.1.1.1.0 h.0 h.2.0 h.1
      (body_stmts h.2.0 v.1.1.1.0 h.2.1))
  rule_counts _ repeat_statement i j v h span =
      spanned (1 + (h.0 + (0 + (h.2.0 + 0)))) (1 + h.0 + h.2.0) i j (forms.Repeat v.1.0 v.1.1.1.0)
      (omega arith) (span refl)
      (phrases.repeat_statement (span_to i j) v.1.0 v.1.1.1.0 h.0 h.2.0 (body_stmts h.0 v.1.0 h.1)
      h.2.1)
  rule_counts _ empty_statement i j v h span = tt
  rule_counts _ statement i j v h span = subst (λ c. StmtAt c v.0) (omega arith) h.1
  rule_counts _ last_statement i j v h span = tt
  rule_counts _ next_statement i j v h span = body_first h.0 h.2.0 (0 + (h.0 + (h.2.0 + 0))) v.1.0
      v.1.1.0 (omega arith) h.1 h.2.1
  rule_counts _ statement_sequence i j v h span = body_first h.0 h.2.0 (h.0 + (h.2.0 + 0)) v.0 v.1.0
      (omega arith) h.1 h.2.1
  rule_counts _ no_body i j v h span = tt
  rule_counts _ body i j v h span = body_more h.0 (0 + (h.0 + 0)) v.1.0 (omega arith) h.1
  rule_counts _ procedure i j v h span =
      subst AllStand (sym (fold-roll-Proc (List (List Stmt)) (List (List Stmt)) decls_bodies
      proc_bodies _)) (body_exact h.2.2.0 v.1.1.1.1.1.0 h.2.2.1, h.2.1)
  rule_counts _ no_procedures i j v h span = tt
  rule_counts _ next_procedure i j v h span = stand_append (bodies_of v.0)
      (joined (map bodies_of v.1.1.0)) h.1 h.2.1
  rule_counts _ declarations i j v h span =
      subst AllStand (sym (fold-roll-Decls (List (List Stmt)) (List (List Stmt)) decls_bodies
      proc_bodies _)) h.2.2.2.1
  rule_counts _ a_module i j v h span = (body_exact h.2.0 v.1.1.1.1.0 h.2.1, h.1)
  rule_counts _ g.last_ident i j v h span = tt
  rule_counts _ g.next_ident i j v h span = tt
  rule_counts _ g.ident_list i j v h span = tt
  rule_counts _ g.name_list i j v h span = tt
  rule_counts _ g.empty_field_list i j v h span = tt
  rule_counts _ g.field_list i j v h span = tt
  rule_counts _ g.last_field_list i j v h span = tt
  rule_counts _ g.next_field_list i j v h span = tt
  rule_counts _ g.field_sequence i j v h span = tt
  rule_counts _ g.type_name i j v h span = tt
  rule_counts _ g.array i j v h span = tt
  rule_counts _ g.record_type i j v h span = tt
  rule_counts _ g.by_value i j v h span = tt
  rule_counts _ g.by_var i j v h span = tt
  rule_counts _ g.section i j v h span = tt
  rule_counts _ g.last_section i j v h span = tt
  rule_counts _ g.next_section i j v h span = tt
  rule_counts _ g.no_sections i j v h span = tt
  rule_counts _ g.sections i j v h span = tt
  rule_counts _ g.no_formals i j v h span = tt
  rule_counts _ g.formals i j v h span = tt
  rule_counts _ g.constant i j v h span = tt
  rule_counts _ g.last_constant i j v h span = tt
  rule_counts _ g.next_constant i j v h span = tt
  rule_counts _ g.no_constants i j v h span = tt
  rule_counts _ g.constants i j v h span = tt
  rule_counts _ g.type_declaration i j v h span = tt
  rule_counts _ g.last_type i j v h span = tt
  rule_counts _ g.next_type i j v h span = tt
  rule_counts _ g.no_types i j v h span = tt
  rule_counts _ g.types i j v h span = tt
  rule_counts _ g.last_variables i j v h span = tt
  rule_counts _ g.next_variables i j v h span = tt
  rule_counts _ g.no_variables i j v h span = tt
  rule_counts _ g.variables i j v h span = tt

  -- ---- all forms, from the token of number i on

  mutual
    form_counts : (n : Nonterminal) (f : Form n) (i : ℕ) (more : List Kind) →
        drop i (kinds tokens) ≡ text n f ++ more → At n (tree n i f) (marks (text n f))
    form_counts n (made _ r ps) i more is =
        let h = parts_count (right r) ps i more is in
        subst (At n (tree_by r i (ends (right r) i ps) (values (right r) i ps))) h.1
        (rule_counts n r i (ends (right r) i ps) (values (right r) i ps) h.0
        (λ first. span_count tokens i (ends (right r) i ps) (texts (right r) ps) more is
        (ends_are (right r) i ps) (some_tokens (right r) i ps first) ∙ sym h.1))

    parts_count : (ss : List Symbol) (ps : Parts ss) (i : ℕ) (more : List Kind) →
        drop i (kinds tokens) ≡ texts ss ps ++ more → (h : Holds ss (values ss i ps)) ×
        (total ss (values ss i ps) h ≡ marks (texts ss ps))
    parts_count _ done i more is = (tt, refl)
    parts_count _ (taken k ss ps) i more is =
        let h = parts_count ss ps (i + 1) more
        (drop_next (kinds tokens) i k (texts ss ps ++ more) is) in
        (h.0, ap (λ n. kind_nodes k + n) h.1)
    parts_count _ (part d m ss f ps) i more is =
        let here : drop i (kinds tokens) ≡ text m f ++ (texts ss ps ++ more) =
        is ∙ append_assoc (text m f) (texts ss ps) more in
        let behind : drop (end m i f) (kinds tokens) ≡ texts ss ps ++ more =
        subst (λ j. drop j (kinds tokens) ≡ texts ss ps ++ more) (sym (end_is m i f))
        (drop_behind (text m f) (kinds tokens) i (texts ss ps ++ more) here) in
        let h = parts_count ss ps (end m i f) more behind in (
          (marks (text m f), form_counts m f i (texts ss ps ++ more) here, h.0),
          ap (λ n. marks (text m f) + n) h.1 ∙ sym (marks-append (text m f) (texts ss ps)),
        )

  -- the bodies of a module that the tokens are
  pub module_stands : (f : Form Module) → kinds tokens ≡ text Module f →
      AllStand ((tree Module 0 f).body ∷ bodies_in (tree Module 0 f).decls)
  module_stands f is = form_counts Module f 0 [] (is ∙ sym (append-nil (text Module f)))
