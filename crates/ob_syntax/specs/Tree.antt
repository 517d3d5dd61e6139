-- The tree that a derivation stands for.
use Rattle.std.specs.Prelude.{ℕ, ◌+◌, ◌-◌, List, [], ◌∷◌, Option, Some, None, Bool, true, false}
use Rattle.std.specs.Prelude.{◌++◌, option_to_list}
use Rattle.ob_syntax.specs.declared.token.Kind.{Kind}
use Rattle.ob_syntax.specs.declared.token.Kind.TheVariants.{Plus, Minus}
use Rattle.ob_syntax.specs.declared.tree.Span.{Span}
use Rattle.ob_syntax.specs.declared.tree.Arm.{Arm as ArmTree, roll-Arm}
use Rattle.ob_syntax.specs.declared.tree.ConstDecl.{ConstDecl}
use Rattle.ob_syntax.specs.declared.tree.Decls.{Decls, roll-Decls}
use Rattle.ob_syntax.specs.declared.tree.Designator.{roll-Designator}
use Rattle.ob_syntax.specs.declared.tree.Expr.{Expr, roll-Expr}
use Rattle.ob_syntax.specs.declared.tree.Factor.{Factor as FactorTree, roll-Factor}
use Rattle.ob_syntax.specs.declared.tree.FactorForm.TheVariants as factor
use Rattle.ob_syntax.specs.declared.tree.Module.{Module as ModuleTree}
use Rattle.ob_syntax.specs.declared.tree.NameList.{NameList as Names, roll-NameList}
use Rattle.ob_syntax.specs.declared.tree.NextFactor.{NextFactor, roll-NextFactor}
use Rattle.ob_syntax.specs.declared.tree.NextTerm.{NextTerm, roll-NextTerm}
use Rattle.ob_syntax.specs.declared.tree.Proc.{Proc, roll-Proc}
use Rattle.ob_syntax.specs.declared.tree.Relation.{Relation, roll-Relation}
use Rattle.ob_syntax.specs.declared.tree.Section.{Section as SectionTree}
use Rattle.ob_syntax.specs.declared.tree.Selector.{Selector as SelectorTree, roll-Selector}
use Rattle.ob_syntax.specs.declared.tree.SelectorForm.TheVariants as selector
use Rattle.ob_syntax.specs.declared.tree.SimpleExpr.{SimpleExpr, roll-SimpleExpr}
use Rattle.ob_syntax.specs.declared.tree.Stmt.{Stmt, roll-Stmt}
use Rattle.ob_syntax.specs.declared.tree.StmtForm.TheVariants as form
use Rattle.ob_syntax.specs.declared.tree.Term.{Term as TermTree, roll-Term}
use Rattle.ob_syntax.specs.declared.tree.TypeDecl.{TypeDecl}
use Rattle.ob_syntax.specs.declared.tree.TypeExpr.{TypeExpr, roll-TypeExpr}
use Rattle.ob_syntax.specs.declared.tree.TypeForm.TheVariants as shape
use Rattle.ob_syntax.specs.Grammar.{Nonterminal, Selectors, Selector, Factor, Factors, Term, Terms}
use Rattle.ob_syntax.specs.Grammar.{Sign, SimpleExpression, Comparison, Expression, ArgumentList}
use Rattle.ob_syntax.specs.Grammar.{Arguments, ActualParameters, Arm, Elsifs, Arms, Else, Action}
use Rattle.ob_syntax.specs.Grammar.{Statement, Statements, StatementSequence, Idents, IdentList}
use Rattle.ob_syntax.specs.Grammar.{NameList, FieldList, FieldLists, FieldSequence, TypeExpression}
use Rattle.ob_syntax.specs.Grammar.{ByVar, Section, Sections, SectionList, FormalParameters}
use Rattle.ob_syntax.specs.Grammar.{Procedure, Procedures, Constant, ConstantList, Constants}
use Rattle.ob_syntax.specs.Grammar.{TypeDeclaration, TypeList, Types, VariableList, Variables}
use Rattle.ob_syntax.specs.Grammar.{Declarations, Body, Module, mul_kind, add_kind, relation_kind}
use Rattle.ob_syntax.specs.Grammar.{Symbol, token, phrase, Rule, no_selectors, next_selector, field}
use Rattle.ob_syntax.specs.Grammar.{index, name, number, parenthesis, negation, no_factors}
use Rattle.ob_syntax.specs.Grammar.{next_factor, term, no_terms, next_term, no_sign, plus_sign}
use Rattle.ob_syntax.specs.Grammar.{minus_sign, simple_expression, no_comparison, comparison}
use Rattle.ob_syntax.specs.Grammar.{expression, no_arguments, arguments, last_argument}
use Rattle.ob_syntax.specs.Grammar.{next_argument, no_parameters, parameters, arm, no_elsif}
use Rattle.ob_syntax.specs.Grammar.{next_elsif, arms, no_else, otherwise, assignment, call}
use Rattle.ob_syntax.specs.Grammar.{if_statement, while_statement, repeat_statement}
use Rattle.ob_syntax.specs.Grammar.{empty_statement, statement, last_statement, next_statement}
use Rattle.ob_syntax.specs.Grammar.{statement_sequence, last_ident, next_ident, ident_list}
use Rattle.ob_syntax.specs.Grammar.{name_list, empty_field_list, field_list, last_field_list}
use Rattle.ob_syntax.specs.Grammar.{next_field_list, field_sequence, type_name, array, record_type}
use Rattle.ob_syntax.specs.Grammar.{by_value, by_var, section, last_section, next_section}
use Rattle.ob_syntax.specs.Grammar.{no_sections, sections, no_formals, formals, procedure}
use Rattle.ob_syntax.specs.Grammar.{no_procedures, next_procedure, constant, last_constant}
use Rattle.ob_syntax.specs.Grammar.{next_constant, no_constants, constants, type_declaration}
use Rattle.ob_syntax.specs.Grammar.{last_type, next_type, no_types, types, last_variables}
use Rattle.ob_syntax.specs.Grammar.{next_variables, no_variables, variables, declarations, no_body}
use Rattle.ob_syntax.specs.Grammar.{body, a_module, right}
use Rattle.ob_syntax.specs.Forms.{Form, Parts, made, done, taken, part, end, ends}

-- what a phrase of each nonterminal stands for
abbrev pub Tree : Nonterminal → Type 0
Tree Selectors = List SelectorTree
Tree Selector = SelectorTree
Tree Factor = FactorTree
Tree Factors = List NextFactor
Tree Term = TermTree
Tree Terms = List NextTerm
Tree Sign = Option Kind
Tree SimpleExpression = SimpleExpr
Tree Comparison = Option Relation
Tree Expression = Expr
Tree ArgumentList = List Expr
Tree Arguments = List Expr
Tree ActualParameters = List Expr
Tree Arm = ArmTree
Tree Elsifs = List ArmTree
Tree Arms = List ArmTree
Tree Else = List Stmt
Tree Action = Stmt
Tree Statement = Option Stmt
Tree Statements = List Stmt
Tree StatementSequence = List Stmt
Tree Idents = List ℕ
Tree IdentList = List ℕ
Tree NameList = Names
Tree FieldList = Option Names
Tree FieldLists = List Names
Tree FieldSequence = List Names
Tree TypeExpression = TypeExpr
Tree ByVar = Bool
Tree Section = SectionTree
Tree Sections = List SectionTree
Tree SectionList = List SectionTree
Tree FormalParameters = List SectionTree
Tree Procedure = Proc
Tree Procedures = List Proc
Tree Constant = ConstDecl
Tree ConstantList = List ConstDecl
Tree Constants = List ConstDecl
Tree TypeDeclaration = TypeDecl
Tree TypeList = List TypeDecl
Tree Types = List TypeDecl
Tree VariableList = List Names
Tree Variables = List Names
Tree Declarations = Decls
Tree Body = List Stmt
Tree Module = ModuleTree

-- of each symbol of a right side: the number of a token, the tree of a phrase
abbrev pub Values : List Symbol → Type 0
Values [] = Unit {0}
Values (token k ∷ ss) = ℕ × Values ss
Values (phrase d m ∷ ss) = Tree m × Values ss

-- from token i up to token j, which is not in it
abbrev pub span_to : ℕ → ℕ → Span
span_to i j = record { first = i; last = j - 1 }

-- the tree of a production from token i up to token j, from what its right side stands for
abbrev pub tree_by : {n : Nonterminal} (r : Rule n) → ℕ → ℕ → Values (right r) → Tree n
tree_by no_selectors i j v = []
tree_by next_selector i j (s, (ss, _)) = s ∷ ss
tree_by field i j (_, (n, _)) =
    roll-Selector (record { span = span_to i j; form = selector.Field n })
tree_by index i j (_, (e, _)) =
    roll-Selector (record { span = span_to i j; form = selector.Index e })
tree_by name i j (n, (ss, _)) =
    let target = roll-Designator (record { span = span_to i j; name = n; selectors = ss }) in
    roll-Factor (record { span = span_to i j; form = factor.Name target })
tree_by (number n) i j v = roll-Factor (record { span = span_to i j; form = factor.Number n })
tree_by parenthesis i j (_, (e, _)) =
    roll-Factor (record { span = span_to i j; form = factor.Paren e })
tree_by negation i j (_, (f, _)) = roll-Factor (record { span = span_to i j; form = factor.Not f })
tree_by term i j (f, (fs, _)) = roll-Term (record { span = span_to i j; first = f; rest = fs })
tree_by no_factors i j v = []
tree_by (next_factor op) i j (_, (f, (fs, _))) =
    roll-NextFactor (record { op = mul_kind op; factor = f }) ∷ fs
tree_by simple_expression i j (s, (t, (ts, _))) =
    roll-SimpleExpr (record { span = span_to i j; sign = s; first = t; rest = ts })
tree_by no_sign i j v = None
tree_by plus_sign i j v = Some Plus
tree_by minus_sign i j v = Some Minus
tree_by no_terms i j v = []
tree_by (next_term op) i j (_, (t, (ts, _))) =
    roll-NextTerm (record { op = add_kind op; term = t }) ∷ ts
tree_by expression i j (e, (r, _)) =
    roll-Expr (record { span = span_to i j; left = e; relation = r })
tree_by no_comparison i j v = None
tree_by (comparison op) i j (_, (e, _)) =
    Some (roll-Relation (record { op = relation_kind op; right = e }))
tree_by parameters i j (_, (es, _)) = es
tree_by no_arguments i j v = []
tree_by arguments i j (e, (es, _)) = e ∷ es
tree_by last_argument i j v = []
tree_by next_argument i j (_, (e, (es, _))) = e ∷ es
tree_by assignment i j (n, (ss, (k, (e, _)))) =
    let target = roll-Designator (record { span = span_to i k; name = n; selectors = ss }) in
    roll-Stmt (record { span = span_to i j; form = form.Assign target e })
tree_by call i j (n, (es, _)) = roll-Stmt (record { span = span_to i j; form = form.Call n es })
tree_by no_parameters i j v = []
tree_by if_statement i j (_, (xs, (others, _))) =
    roll-Stmt (record { span = span_to i j; form = form.If xs others })
tree_by arms i j (x, (xs, _)) = x ∷ xs
tree_by arm i j (e, (_, (ss, _))) = roll-Arm (record { test = e; body = ss })
tree_by no_elsif i j v = []
tree_by next_elsif i j (_, (x, (xs, _))) = x ∷ xs
tree_by no_else i j v = []
tree_by otherwise i j (_, (ss, _)) = ss
tree_by while_statement i j (_, (e, (_, (ss, _)))) =
    roll-Stmt (record { span = span_to i j; form = form.While e ss })
tree_by repeat_statement i j (_, (ss, (_, (e, _)))) =
    roll-Stmt (record { span = span_to i j; form = form.Repeat ss e })
tree_by empty_statement i j v = None
tree_by statement i j (s, _) = Some s
tree_by statement_sequence i j (s, (ss, _)) = option_to_list s ++ ss
tree_by last_statement i j v = []
tree_by next_statement i j (_, (s, (ss, _))) = option_to_list s ++ ss
tree_by ident_list i j (n, (ns, _)) = n ∷ ns
tree_by last_ident i j v = []
tree_by next_ident i j (_, (n, (ns, _))) = n ∷ ns
tree_by type_name i j (n, _) = roll-TypeExpr (record { span = span_to i j; form = shape.Name n })
tree_by array i j (_, (e, (_, (t, _)))) =
    roll-TypeExpr (record { span = span_to i j; form = shape.Array e t })
tree_by record_type i j (_, (fs, _)) =
    roll-TypeExpr (record { span = span_to i j; form = shape.Record fs })
tree_by field_sequence i j (f, (fs, _)) = option_to_list f ++ fs
tree_by name_list i j (ns, (_, (t, _))) = roll-NameList (record { names = ns; shape = t })
tree_by empty_field_list i j v = None
tree_by field_list i j (f, _) = Some f
tree_by last_field_list i j v = []
tree_by next_field_list i j (_, (f, (fs, _))) = option_to_list f ++ fs
tree_by section i j (v, (ns, (_, (t, _)))) = record { by_var = v; names = ns; shape = t }
tree_by by_value i j v = false
tree_by by_var i j v = true
tree_by formals i j (_, (ss, _)) = ss
tree_by no_sections i j v = []
tree_by sections i j (s, (ss, _)) = s ∷ ss
tree_by last_section i j v = []
tree_by next_section i j (_, (s, (ss, _))) = s ∷ ss
tree_by procedure i j (_, (n, (ps, (_, (ds, (ss, (_, (close, _)))))))) =
    roll-Proc (record {
      span = span_to i j;
      name = n;
      params = ps;
      decls = ds;
      body = ss;
      close = close;
    })
tree_by no_formals i j v = []
tree_by no_body i j v = []
tree_by body i j (_, (ss, _)) = ss
tree_by declarations i j (cs, (ts, (vs, (ps, _)))) =
    roll-Decls (record { consts = cs; types = ts; vars = vs; procs = ps })
tree_by no_constants i j v = []
tree_by constants i j (_, (cs, _)) = cs
tree_by last_constant i j v = []
tree_by next_constant i j (c, (_, (cs, _))) = c ∷ cs
tree_by constant i j (n, (_, (e, _))) = record { name = n; value = e }
tree_by no_types i j v = []
tree_by types i j (_, (ts, _)) = ts
tree_by last_type i j v = []
tree_by next_type i j (t, (_, (ts, _))) = t ∷ ts
tree_by type_declaration i j (n, (_, (t, _))) = record { name = n; shape = t }
tree_by no_variables i j v = []
tree_by variables i j (_, (vs, _)) = vs
tree_by last_variables i j v = []
tree_by next_variables i j (v, (_, (vs, _))) = v ∷ vs
tree_by no_procedures i j v = []
tree_by next_procedure i j (p, (_, (ps, _))) = p ∷ ps
tree_by a_module i j (_, (n, (_, (ds, (ss, (_, (close, _))))))) =
    record { span = span_to i j; name = n; decls = ds; body = ss; close = close }

-- the tree of a form whose first token has number i
abbrev mutual
  pub tree : (n : Nonterminal) → ℕ → Form n → Tree n
  tree n i (made _ r ps) = tree_by r i (ends (right r) i ps) (values (right r) i ps)

  pub values : (ss : List Symbol) → ℕ → Parts ss → Values ss
  values _ i done = tt
  values _ i (taken k ss ps) = (i, values ss (i + 1) ps)
  values _ i (part d m ss f ps) = (tree m i f, values ss (end m i f) ps)
