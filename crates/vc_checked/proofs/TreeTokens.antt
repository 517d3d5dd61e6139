-- The nodes of the bodies in a tree and the names of its variables are together at most as many as
-- the tokens that derive it.
use Rattle.std.proofs.Common.{◌≡◌, ℕ, zero, suc, ◌+◌, ◌-◌, ◌<◌, ◌≤◌, List, [], ◌∷◌, ◌++◌, length}
use Rattle.std.proofs.Common.{map, take, drop, Option, Some, None, ap, sym, subst, arith}
use Rattle.std.proofs.Common.{length-append}
use Rattle.std.specs.Prelude.{option_to_list}
use Rattle.std.proofs.lemmas.List.Sums.{count_by-le-length}
use Rattle.ob_syntax.specs.declared.token.Token.{Token}
use Rattle.ob_syntax.specs.declared.tree.Arm.{Arm as ArmTree}
use Rattle.ob_syntax.specs.declared.tree.Decls.{Decls, Decls-F, roll-Decls, fold-roll-Decls}
use Rattle.ob_syntax.specs.declared.tree.Designator.{roll-Designator}
use Rattle.ob_syntax.specs.declared.tree.NameList.{NameList as Names, NameList-F, out-NameList}
use Rattle.ob_syntax.specs.declared.tree.NameList.{out-roll-NameList}
use Rattle.ob_syntax.specs.declared.tree.Proc.{Proc, Proc-F, roll-Proc, fold-roll-Proc}
use Rattle.ob_syntax.specs.declared.tree.Stmt.{Stmt, Stmt-F, roll-Stmt, out-Stmt, out-roll-Stmt}
use Rattle.ob_syntax.specs.declared.tree.StmtForm.{StmtForm}
use Rattle.ob_syntax.specs.declared.tree.StmtForm.TheVariants as forms
use Rattle.ob_syntax.specs.declared.tree.TypeExpr.{TypeExpr}
use Rattle.ob_syntax.specs.declared.tree.TypeForm.{TypeForm}
use Rattle.ob_syntax.specs.Declarations.{is_node, span_nodes, nodes_of}
use Rattle.ob_syntax.specs.Derives.{text, texts}
use Rattle.ob_syntax.specs.Forms.{Form, Parts, made, done, taken, part, end, ends}
use Rattle.ob_syntax.specs.Grammar.{Nonterminal, Selectors, Selector, Factor, Factors, Term, Terms}
use Rattle.ob_syntax.specs.Grammar.{Sign, SimpleExpression, Comparison, Expression, ArgumentList}
use Rattle.ob_syntax.specs.Grammar.{Arguments, ActualParameters, Arm, Elsifs, Arms, Else, Action}
use Rattle.ob_syntax.specs.Grammar.{Statement, Statements, StatementSequence, Idents, IdentList}
use Rattle.ob_syntax.specs.Grammar.{NameList, FieldList, FieldLists, FieldSequence, TypeExpression}
use Rattle.ob_syntax.specs.Grammar.{ByVar, Section, Sections, SectionList, FormalParameters}
use Rattle.ob_syntax.specs.Grammar.{Procedure, Procedures, Constant, ConstantList, Constants}
use Rattle.ob_syntax.specs.Grammar.{TypeDeclaration, TypeList, Types, VariableList, Variables}
use Rattle.ob_syntax.specs.Grammar.{Declarations, Body, Module, Symbol, token, phrase, Rule, right}
use Rattle.ob_syntax.specs.Grammar as g
use Rattle.ob_syntax.specs.Tree.{Tree, Values, tree, values, tree_by, span_to}
use Rattle.ob_syntax.specs.WellFormed.{joined}
use Rattle.vc_typed.proofs.TreeBodies.{decls_bodies, proc_bodies, bodies_in, bodies_of}
use Rattle.vc_checked.proofs.Totals.{added, added_append, names_in_lists, decls_names, proc_names}
use Rattle.vc_checked.proofs.Totals.{names_in, names_of}

-- ---- a form has as many tokens as it is long

mutual
  pub end_is : (n : Nonterminal) (i : ℕ) (f : Form n) → end n i f ≡ i + length (text n f)
  end_is n i (made _ r ps) = ends_are (right r) i ps

  ends_are : (ss : List Symbol) (i : ℕ) (ps : Parts ss) → ends ss i ps ≡ i + length (texts ss ps)
  ends_are _ i done = omega arith
  ends_are _ i (taken k ss ps) = let rest = ends_are ss (i + 1) ps in omega (arith, rest)
  ends_are _ i (part d m ss f ps) =
      let first = end_is m i f in
      let rest = ends_are ss (end m i f) ps in
      let both = length-append (text m f) (texts ss ps) in omega (arith, first, rest, both)

-- ---- lists

length_take : {A : Type 0} (n : ℕ) (xs : List A) → length (take n xs) ≤ n
length_take zero xs = omega arith
length_take (suc n) [] = omega arith
length_take (suc n) (x ∷ xs) = let rest = length_take n xs in omega (arith, rest)

module _ (tokens : List Token) where
  -- ---- nodes and names of each phrase

  abbrev pub bodies_nodes : List (List Stmt) → ℕ
  bodies_nodes bs = added (map (nodes_of tokens) bs)

  abbrev Weight : (n : Nonterminal) → Tree n → ℕ
  Weight Action t = span_nodes tokens (out-Stmt t).span
  Weight Statement t = nodes_of tokens (option_to_list t)
  Weight Statements t = nodes_of tokens t
  Weight StatementSequence t = nodes_of tokens t
  Weight Body t = nodes_of tokens t
  Weight Idents t = length t
  Weight IdentList t = length t
  Weight NameList t = length (out-NameList t).names
  Weight VariableList t = names_in_lists t
  Weight Variables t = names_in_lists t
  Weight Procedure t = bodies_nodes (bodies_of t) + names_of t
  Weight Procedures t = bodies_nodes (joined (map bodies_of t)) + added (map names_of t)
  Weight Declarations t = bodies_nodes (bodies_in t) + names_in t
  Weight Module t = nodes_of tokens t.body + (bodies_nodes (bodies_in t.decls) + names_in t.decls)
  Weight _ t = 0

  -- of a right side, with a token for each of its own
  abbrev Weights : (ss : List Symbol) → Values ss → ℕ
  Weights [] v = 0
  Weights (token k ∷ ss) v = 1 + Weights ss v.1
  Weights (phrase d m ∷ ss) v = Weight m v.0 + Weights ss v.1

  -- ---- statements

  span_few : (i j : ℕ) → i < j → i + span_nodes tokens (span_to i j) ≤ j
  span_few i j lt =
      let part = take (j - 1 + 1 - i) (drop i tokens) in
      let nodes = count_by-le-length (λ t. is_node t.kind) part in
      let few = length_take (j - 1 + 1 - i) (drop i tokens) in omega (arith, nodes, few, lt)

  statement_few : (i j : ℕ) (form : StmtForm) → i < j →
      i + span_nodes tokens (out-Stmt (roll-Stmt (record { span = span_to i j; form = form }))).span
      ≤ j
  statement_few i j form lt =
      subst (λ (z : Stmt-F StmtForm ArmTree Stmt). i + span_nodes tokens z.span ≤ j)
      (sym (out-roll-Stmt (record { span = span_to i j; form = form }))) (span_few i j lt)

  nodes_first : (t : Option Stmt) (ts : List Stmt) → nodes_of tokens (option_to_list t ++ ts) ≡
      nodes_of tokens (option_to_list t) + nodes_of tokens ts
  nodes_first None ts = omega arith
  nodes_first (Some t) ts = omega arith

  -- ---- declarations

  declarations_weigh : (y : Decls-F Decls Proc) → Weight Declarations (roll-Decls y) ≡
      names_in_lists y.vars + Weight Procedures y.procs
  declarations_weigh y =
      let bodies = ap bodies_nodes
      (fold-roll-Decls (List (List Stmt)) (List (List Stmt)) decls_bodies proc_bodies y) in
      let names = fold-roll-Decls ℕ ℕ decls_names proc_names y in omega (arith, bodies, names)

  procedure_weighs : (y : Proc-F Decls Proc) → Weight Procedure (roll-Proc y) ≡
      nodes_of tokens y.body + Weight Declarations y.decls
  procedure_weighs y =
      let bodies = ap bodies_nodes
      (fold-roll-Proc (List (List Stmt)) (List (List Stmt)) decls_bodies proc_bodies y) in
      let names = fold-roll-Proc ℕ ℕ decls_names proc_names y in omega (arith, bodies, names)

  procedures_weigh : (p : Proc) (ps : List Proc) → Weight Procedures (p ∷ ps) ≡
      Weight Procedure p + Weight Procedures ps
  procedures_weigh p ps = let both = added_append (nodes_of tokens) (bodies_of p)
      (joined (map bodies_of ps)) in omega (arith, both)

  -- ---- each production, from token i up to token j

  rule_weighs : (n : Nonterminal) (r : Rule n) (i j : ℕ) (v : Values (right r)) →
      i + Weights (right r) v ≤ j → i + Weight n (tree_by r i j v) ≤ j
  rule_weighs Action g.assignment i j v le =
      statement_few i j (forms.Assign
      (roll-Designator (record { span = span_to i v.1.1.0; name = v.0; selectors = v.1.0 }))
      v.1.1.1.0) (omega (arith, le))
  rule_weighs Action g.call i j v le = statement_few i j (forms.Call v.0 v.1.0) (omega (arith, le))
  rule_weighs Action g.if_statement i j v le = statement_few i j (forms.If v.1.0 v.1.1.0)
      (omega (arith, le))
  rule_weighs Action g.while_statement i j v le = statement_few i j (forms.While v.1.0 v.1.1.1.0)
      (omega (arith, le))
  rule_weighs Action g.repeat_statement i j v le = statement_few i j (forms.Repeat v.1.0 v.1.1.1.0)
      (omega (arith, le))
  rule_weighs Statement g.empty_statement i j v le = le
  rule_weighs Statement g.statement i j v le = le
  rule_weighs Statements g.last_statement i j v le = le
  rule_weighs Statements g.next_statement i j v le = let both = nodes_first v.1.0 v.1.1.0 in
      omega (arith, both, le)
  rule_weighs StatementSequence g.statement_sequence i j v le = let both = nodes_first v.0 v.1.0 in
      omega (arith, both, le)
  rule_weighs Body g.no_body i j v le = le
  rule_weighs Body g.body i j v le = omega (arith, le)
  rule_weighs Idents g.last_ident i j v le = le
  rule_weighs Idents g.next_ident i j v le = omega (arith, le)
  rule_weighs IdentList g.ident_list i j v le = omega (arith, le)
  rule_weighs NameList g.name_list i j v le =
      subst (λ (z : NameList-F TypeForm Names TypeExpr). i + length z.names ≤ j)
      (sym (out-roll-NameList (record { names = v.0; shape = v.1.1.0 }))) (omega (arith, le))
  rule_weighs VariableList g.last_variables i j v le = le
  rule_weighs VariableList g.next_variables i j v le = omega (arith, le)
  rule_weighs Variables g.no_variables i j v le = le
  rule_weighs Variables g.variables i j v le = omega (arith, le)
  rule_weighs Procedure g.procedure i j v le =
      let is = procedure_weighs
      (record {
        span = span_to i j;
        name = v.1.0;
        params = v.1.1.0;
        decls = v.1.1.1.1.0;
        body =
            v.1.1.1.1.1.0;
        close = v.1.1.1.1.1.1.1.0;
      }) in
      omega (arith, is, le)
  rule_weighs Procedures g.no_procedures i j v le = le
  rule_weighs Procedures g.next_procedure i j v le = let is = procedures_weigh v.0 v.1.1.0 in
      omega (arith, is, le)
  rule_weighs Declarations g.declarations i j v le =
      let is = declarations_weigh
      (record { consts = v.0; types = v.1.0; vars = v.1.1.0; procs = v.1.1.1.0 }) in
      omega (arith, is, le)
  rule_weighs Module g.a_module i j v le = omega (arith, le)
  rule_weighs Selectors r i j v le = omega (arith, le)
  rule_weighs Selector r i j v le = omega (arith, le)
  rule_weighs Factor r i j v le = omega (arith, le)
  rule_weighs Factors r i j v le = omega (arith, le)
  rule_weighs Term r i j v le = omega (arith, le)
  rule_weighs Terms r i j v le = omega (arith, le)
  rule_weighs Sign r i j v le = omega (arith, le)
  rule_weighs SimpleExpression r i j v le = omega (arith, le)
  rule_weighs Comparison r i j v le = omega (arith, le)
  rule_weighs Expression r i j v le = omega (arith, le)
  rule_weighs ArgumentList r i j v le = omega (arith, le)
  rule_weighs Arguments r i j v le = omega (arith, le)
  rule_weighs ActualParameters r i j v le = omega (arith, le)
  rule_weighs Arm r i j v le = omega (arith, le)
  rule_weighs Elsifs r i j v le = omega (arith, le)
  rule_weighs Arms r i j v le = omega (arith, le)
  rule_weighs Else r i j v le = omega (arith, le)
  rule_weighs FieldList r i j v le = omega (arith, le)
  rule_weighs FieldLists r i j v le = omega (arith, le)
  rule_weighs FieldSequence r i j v le = omega (arith, le)
  rule_weighs TypeExpression r i j v le = omega (arith, le)
  rule_weighs ByVar r i j v le = omega (arith, le)
  rule_weighs Section r i j v le = omega (arith, le)
  rule_weighs Sections r i j v le = omega (arith, le)
  rule_weighs SectionList r i j v le = omega (arith, le)
  rule_weighs FormalParameters r i j v le = omega (arith, le)
  rule_weighs Constant r i j v le = omega (arith, le)
  rule_weighs ConstantList r i j v le = omega (arith, le)
  rule_weighs Constants r i j v le = omega (arith, le)
  rule_weighs TypeDeclaration r i j v le = omega (arith, le)
  rule_weighs TypeList r i j v le = omega (arith, le)
  rule_weighs Types r i j v le = omega (arith, le)

  -- ---- all forms, from the token of number i on

  mutual
    form_weighs : (n : Nonterminal) (f : Form n) (i : ℕ) → i + Weight n (tree n i f) ≤ end n i f
    form_weighs n (made _ r ps) i = rule_weighs n r i (ends (right r) i ps) (values (right r) i ps)
        (parts_weigh (right r) ps i)

    parts_weigh : (ss : List Symbol) (ps : Parts ss) (i : ℕ) → i + Weights ss (values ss i ps) ≤
        ends ss i ps
    parts_weigh _ done i = omega arith
    parts_weigh _ (taken k ss ps) i = let rest = parts_weigh ss ps (i + 1) in omega (arith, rest)
    parts_weigh _ (part d m ss f ps) i =
        let first = form_weighs m f i in
        let rest = parts_weigh ss ps (end m i f) in omega (arith, first, rest)

  -- the nodes of all bodies of a module, and the names of all its variables
  pub module_weighs : (f : Form Module) →
      bodies_nodes ((tree Module 0 f).body ∷ bodies_in (tree Module 0 f).decls) + names_in
      (tree Module 0 f).decls ≤ length (text Module f)
  module_weighs f =
      let few = form_weighs Module f 0 in
      let all = end_is Module 0 f in omega (arith, few, all)
