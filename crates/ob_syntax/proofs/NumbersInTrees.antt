-- The numbers of tokens in a tree that tokens derive: each phrase's lie in the phrase around it,
-- and a name is that of
-- an identifier.
use Rattle.std.proofs.Common.{◌≡◌, ℕ, ℤ, zero, suc, ◌+◌, ◌-◌, ◌≤◌, List, [], ◌∷◌, ◌++◌, length, map}
use Rattle.std.proofs.Common.{drop, Option, Some, None, refl, ap, sym, ◌∙◌, subst, arith, add-one}
use Rattle.std.proofs.Common.{length-append}
use Rattle.std.specs.Prelude.{option_to_list, option_map, slice_get}
use Rattle.std.specs.List.{AllByRecursion as Each}
use Rattle.ob_syntax.specs.declared.token.Kind.{Kind}
use Rattle.ob_syntax.specs.declared.tree.Arm.{Arm as ArmTree, roll-Arm, fold-roll-Arm}
use Rattle.ob_syntax.specs.declared.tree.ConstDecl.{ConstDecl}
use Rattle.ob_syntax.specs.declared.tree.Decls.{Decls, roll-Decls, fold-roll-Decls}
use Rattle.ob_syntax.specs.declared.tree.Designator.{Designator, roll-Designator}
use Rattle.ob_syntax.specs.declared.tree.Designator.{fold-roll-Designator}
use Rattle.ob_syntax.specs.declared.tree.Expr.{Expr, roll-Expr, fold-roll-Expr}
use Rattle.ob_syntax.specs.declared.tree.Factor.{Factor as FactorTree, roll-Factor}
use Rattle.ob_syntax.specs.declared.tree.Factor.{fold-roll-Factor, out-Factor, fold_out-Factor}
use Rattle.ob_syntax.specs.declared.tree.FactorForm.{FactorForm-F, fold-roll-FactorForm}
use Rattle.ob_syntax.specs.declared.tree.Module.{Module as ModuleTree}
use Rattle.ob_syntax.specs.declared.tree.NameList.{NameList as Names, roll-NameList}
use Rattle.ob_syntax.specs.declared.tree.NameList.{fold-roll-NameList}
use Rattle.ob_syntax.specs.declared.tree.NextFactor.{NextFactor, roll-NextFactor}
use Rattle.ob_syntax.specs.declared.tree.NextFactor.{fold-roll-NextFactor}
use Rattle.ob_syntax.specs.declared.tree.NextTerm.{NextTerm, roll-NextTerm, fold-roll-NextTerm}
use Rattle.ob_syntax.specs.declared.tree.Proc.{Proc, roll-Proc, fold-roll-Proc}
use Rattle.ob_syntax.specs.declared.tree.Relation.{Relation, roll-Relation, fold-roll-Relation}
use Rattle.ob_syntax.specs.declared.tree.Section.{Section as SectionTree}
use Rattle.ob_syntax.specs.declared.tree.Selector.{Selector as SelectorTree, roll-Selector}
use Rattle.ob_syntax.specs.declared.tree.Selector.{fold-roll-Selector}
use Rattle.ob_syntax.specs.declared.tree.SelectorForm.{SelectorForm-F, fold-roll-SelectorForm}
use Rattle.ob_syntax.specs.declared.tree.SimpleExpr.{SimpleExpr, roll-SimpleExpr}
use Rattle.ob_syntax.specs.declared.tree.SimpleExpr.{fold-roll-SimpleExpr, out-SimpleExpr}
use Rattle.ob_syntax.specs.declared.tree.SimpleExpr.{fold_out-SimpleExpr}
use Rattle.ob_syntax.specs.declared.tree.Span.{Span}
use Rattle.ob_syntax.specs.declared.tree.Stmt.{Stmt, roll-Stmt, fold-roll-Stmt}
use Rattle.ob_syntax.specs.declared.tree.StmtForm.{StmtForm-F, fold-roll-StmtForm}
use Rattle.ob_syntax.specs.declared.tree.Term.{Term as TermTree, roll-Term, fold-roll-Term}
use Rattle.ob_syntax.specs.declared.tree.Term.{out-Term, fold_out-Term}
use Rattle.ob_syntax.specs.declared.tree.TypeDecl.{TypeDecl}
use Rattle.ob_syntax.specs.declared.tree.TypeExpr.{TypeExpr, roll-TypeExpr, fold-roll-TypeExpr}
use Rattle.ob_syntax.specs.declared.tree.TypeForm.{TypeForm-F, fold-roll-TypeForm}
use Rattle.ob_syntax.specs.declared.tree.FactorForm.TheVariants as factor
use Rattle.ob_syntax.specs.declared.tree.SelectorForm.TheVariants as selector
use Rattle.ob_syntax.specs.declared.tree.StmtForm.TheVariants as form
use Rattle.ob_syntax.specs.declared.tree.TypeForm.TheVariants as shape
use Rattle.ob_syntax.specs.Grammar.{Nonterminal, Selectors, Selector, Factor, Factors, Term, Terms}
use Rattle.ob_syntax.specs.Grammar.{Sign, SimpleExpression, Comparison, Expression, ArgumentList}
use Rattle.ob_syntax.specs.Grammar.{Arguments, ActualParameters, Arm, Elsifs, Arms, Else, Action}
use Rattle.ob_syntax.specs.Grammar.{Statement, Statements, StatementSequence, Idents, IdentList}
use Rattle.ob_syntax.specs.Grammar.{NameList, FieldList, FieldLists, FieldSequence, TypeExpression}
use Rattle.ob_syntax.specs.Grammar.{ByVar, Section, Sections, SectionList, FormalParameters}
use Rattle.ob_syntax.specs.Grammar.{Procedure, Procedures, Constant, ConstantList, Constants}
use Rattle.ob_syntax.specs.Grammar.{TypeDeclaration, TypeList, Types, VariableList, Variables}
use Rattle.ob_syntax.specs.Grammar.{Declarations, Body, Module, Symbol, token, phrase, Rule}
use Rattle.ob_syntax.specs.Grammar.{no_selectors, next_selector, field, index, name, number}
use Rattle.ob_syntax.specs.Grammar.{parenthesis, negation, no_factors, next_factor, term, no_terms}
use Rattle.ob_syntax.specs.Grammar.{next_term, no_sign, plus_sign, minus_sign, simple_expression}
use Rattle.ob_syntax.specs.Grammar.{no_comparison, comparison, expression, no_arguments, arguments}
use Rattle.ob_syntax.specs.Grammar.{last_argument, next_argument, no_parameters, parameters, arm}
use Rattle.ob_syntax.specs.Grammar.{no_elsif, next_elsif, arms, no_else, otherwise, assignment}
use Rattle.ob_syntax.specs.Grammar.{call, if_statement, while_statement, repeat_statement}
use Rattle.ob_syntax.specs.Grammar.{empty_statement, statement, last_statement, next_statement}
use Rattle.ob_syntax.specs.Grammar.{statement_sequence, last_ident, next_ident, ident_list}
use Rattle.ob_syntax.specs.Grammar.{name_list, empty_field_list, field_list, last_field_list}
use Rattle.ob_syntax.specs.Grammar.{next_field_list, field_sequence, type_name, array, record_type}
use Rattle.ob_syntax.specs.Grammar.{by_value, by_var, section, last_section, next_section}
use Rattle.ob_syntax.specs.Grammar.{no_sections, sections, no_formals, formals, procedure}
use Rattle.ob_syntax.specs.Grammar.{no_procedures, next_procedure, constant, last_constant}
use Rattle.ob_syntax.specs.Grammar.{next_constant, no_constants, constants, type_declaration}
use Rattle.ob_syntax.specs.Grammar.{last_type, next_type, no_types, types, last_variables}
use Rattle.ob_syntax.specs.Grammar.{next_variables, no_variables, variables, declarations, no_body}
use Rattle.ob_syntax.specs.Grammar.{body, a_module, right}
use Rattle.ob_syntax.specs.Forms.{Form, Parts, made, done, taken, part, spell, spells, end, ends}
use Rattle.ob_syntax.specs.Tree.{Tree, Values, tree, values, tree_by, span_to}
use Rattle.ob_syntax.specs.Derives.{text, texts, Derives}
use Rattle.ob_syntax.proofs.FormTokens.{spell_whole}
use Rattle.ob_syntax.proofs.FormsAdvance.{stays, all_stay}
use Rattle.ob_syntax.specs.Numbers.{Mark, Marks, none, both, all, maybe, named, spanned}
use Rattle.ob_syntax.specs.Numbers.{factor_form_marks, in_factor_form, selector_form_marks}
use Rattle.ob_syntax.specs.Numbers.{in_selector_form, designator_marks, in_designator}
use Rattle.ob_syntax.specs.Numbers.{expression_marks, in_expression, factor_marks, in_factor}
use Rattle.ob_syntax.specs.Numbers.{next_factor_marks, in_next_factor, next_term_marks}
use Rattle.ob_syntax.specs.Numbers.{in_next_term, relation_marks, in_relation, selector_marks}
use Rattle.ob_syntax.specs.Numbers.{in_selector, simple_expression_marks, in_simple_expression}
use Rattle.ob_syntax.specs.Numbers.{term_marks, in_term, type_form_marks, in_type_form}
use Rattle.ob_syntax.specs.Numbers.{name_list_marks, in_name_list, type_expression_marks}
use Rattle.ob_syntax.specs.Numbers.{in_type_expression, statement_form_marks, in_statement_form}
use Rattle.ob_syntax.specs.Numbers.{arm_marks, in_arm, statement_marks, in_statement}
use Rattle.ob_syntax.specs.Numbers.{declarations_marks, in_declarations, procedure_marks}
use Rattle.ob_syntax.specs.Numbers.{in_procedure, in_constant, in_type, in_section, in_module}
use Rattle.ob_syntax.specs.Numbers.{IsMark, IsNumbered}

-- ---- the marks of a tree, by its parts

marks-Field : (s : Span) (k : ℕ) →
    in_selector (roll-Selector (record { span = s; form = selector.Field k })) ≡ spanned s (named k)
marks-Field s k = fold-roll-Selector Marks Marks Marks Marks Marks Marks Marks Marks Marks Marks
    Marks factor_form_marks selector_form_marks designator_marks expression_marks factor_marks
    next_factor_marks next_term_marks relation_marks selector_marks simple_expression_marks
    term_marks _ ∙ ap (spanned s)
    (ap in_selector_form (sym (selector.rolls-Field k)) ∙ fold-roll-SelectorForm Marks Marks Marks
    Marks Marks Marks Marks Marks Marks Marks Marks factor_form_marks selector_form_marks
    designator_marks expression_marks factor_marks next_factor_marks next_term_marks relation_marks
    selector_marks simple_expression_marks term_marks (SelectorForm-F.Field k))

marks-Index : (s : Span) (e : Expr) →
    in_selector (roll-Selector (record { span = s; form = selector.Index e })) ≡
    spanned s (in_expression e)
marks-Index s e = fold-roll-Selector Marks Marks Marks Marks Marks Marks Marks Marks Marks Marks
    Marks factor_form_marks selector_form_marks designator_marks expression_marks factor_marks
    next_factor_marks next_term_marks relation_marks selector_marks simple_expression_marks
    term_marks _ ∙ ap (spanned s)
    (ap in_selector_form (sym (selector.rolls-Index e)) ∙ fold-roll-SelectorForm Marks Marks Marks
    Marks Marks Marks Marks Marks Marks Marks Marks factor_form_marks selector_form_marks
    designator_marks expression_marks factor_marks next_factor_marks next_term_marks relation_marks
    selector_marks simple_expression_marks term_marks (SelectorForm-F.Index e))

marks-Designator : (s : Span) (k : ℕ) (xs : List SelectorTree) →
    in_designator (roll-Designator (record { span = s; name = k; selectors = xs })) ≡
    spanned s (both (named k) (all (map in_selector xs)))
marks-Designator s k xs = fold-roll-Designator Marks Marks Marks Marks Marks Marks Marks Marks Marks
    Marks Marks factor_form_marks selector_form_marks designator_marks expression_marks factor_marks
    next_factor_marks next_term_marks relation_marks selector_marks simple_expression_marks
    term_marks _

marks-Name : (s : Span) (d : Designator) →
    in_factor (roll-Factor (record { span = s; form = factor.Name d })) ≡
    spanned s (in_designator d)
marks-Name s d = fold-roll-Factor Marks Marks Marks Marks Marks Marks Marks Marks Marks Marks Marks
    factor_form_marks selector_form_marks designator_marks expression_marks factor_marks
    next_factor_marks next_term_marks relation_marks selector_marks simple_expression_marks
    term_marks _ ∙ ap (spanned s)
    (ap in_factor_form (sym (factor.rolls-Name d)) ∙ fold-roll-FactorForm Marks Marks Marks Marks
    Marks Marks Marks Marks Marks Marks Marks factor_form_marks selector_form_marks designator_marks
    expression_marks factor_marks next_factor_marks next_term_marks relation_marks selector_marks
    simple_expression_marks term_marks (FactorForm-F.Name d))

marks-Number : (s : Span) (n : ℤ) →
    in_factor (roll-Factor (record { span = s; form = factor.Number n })) ≡ spanned s (none)
marks-Number s n = fold-roll-Factor Marks Marks Marks Marks Marks Marks Marks Marks Marks Marks
    Marks factor_form_marks selector_form_marks designator_marks expression_marks factor_marks
    next_factor_marks next_term_marks relation_marks selector_marks simple_expression_marks
    term_marks _ ∙ ap (spanned s)
    (ap in_factor_form (sym (factor.rolls-Number n)) ∙ fold-roll-FactorForm Marks Marks Marks Marks
    Marks Marks Marks Marks Marks Marks Marks factor_form_marks selector_form_marks designator_marks
    expression_marks factor_marks next_factor_marks next_term_marks relation_marks selector_marks
    simple_expression_marks term_marks (FactorForm-F.Number n))

marks-Paren : (s : Span) (e : Expr) →
    in_factor (roll-Factor (record { span = s; form = factor.Paren e })) ≡
    spanned s (in_expression e)
marks-Paren s e = fold-roll-Factor Marks Marks Marks Marks Marks Marks Marks Marks Marks Marks Marks
    factor_form_marks selector_form_marks designator_marks expression_marks factor_marks
    next_factor_marks next_term_marks relation_marks selector_marks simple_expression_marks
    term_marks _ ∙ ap (spanned s)
    (ap in_factor_form (sym (factor.rolls-Paren e)) ∙ fold-roll-FactorForm Marks Marks Marks Marks
    Marks Marks Marks Marks Marks Marks Marks factor_form_marks selector_form_marks designator_marks
    expression_marks factor_marks next_factor_marks next_term_marks relation_marks selector_marks
    simple_expression_marks term_marks (FactorForm-F.Paren e))

marks-Not : (s : Span) (f : FactorTree) →
    in_factor (roll-Factor (record { span = s; form = factor.Not f })) ≡ spanned s (in_factor f)
marks-Not s f = fold-roll-Factor Marks Marks Marks Marks Marks Marks Marks Marks Marks Marks Marks
    factor_form_marks selector_form_marks designator_marks expression_marks factor_marks
    next_factor_marks next_term_marks relation_marks selector_marks simple_expression_marks
    term_marks _ ∙ ap (spanned s)
    (ap in_factor_form (sym (factor.rolls-Not f)) ∙ fold-roll-FactorForm Marks Marks Marks Marks
    Marks Marks Marks Marks Marks Marks Marks factor_form_marks selector_form_marks designator_marks
    expression_marks factor_marks next_factor_marks next_term_marks relation_marks selector_marks
    simple_expression_marks term_marks (FactorForm-F.Not f))

marks-Term : (s : Span) (f : FactorTree) (fs : List NextFactor) →
    in_term (roll-Term (record { span = s; first = f; rest = fs })) ≡
    spanned s (both (in_factor f) (all (map in_next_factor fs)))
marks-Term s f fs = fold-roll-Term Marks Marks Marks Marks Marks Marks Marks Marks Marks Marks Marks
    factor_form_marks selector_form_marks designator_marks expression_marks factor_marks
    next_factor_marks next_term_marks relation_marks selector_marks simple_expression_marks
    term_marks _

marks-NextFactor : (op : Kind) (f : FactorTree) →
    in_next_factor (roll-NextFactor (record { op = op; factor = f })) ≡ in_factor f
marks-NextFactor op f = fold-roll-NextFactor Marks Marks Marks Marks Marks Marks Marks Marks Marks
    Marks Marks factor_form_marks selector_form_marks designator_marks expression_marks factor_marks
    next_factor_marks next_term_marks relation_marks selector_marks simple_expression_marks
    term_marks _

marks-SimpleExpr : (s : Span) (sign : Option Kind) (t : TermTree) (ts : List NextTerm) →
    in_simple_expression (roll-SimpleExpr (record { span = s; sign = sign; first = t; rest = ts }))
    ≡ spanned s (both (in_term t) (all (map in_next_term ts)))
marks-SimpleExpr s sign t ts = fold-roll-SimpleExpr Marks Marks Marks Marks Marks Marks Marks Marks
    Marks Marks Marks factor_form_marks selector_form_marks designator_marks expression_marks
    factor_marks next_factor_marks next_term_marks relation_marks selector_marks
    simple_expression_marks term_marks _

marks-NextTerm : (op : Kind) (t : TermTree) →
    in_next_term (roll-NextTerm (record { op = op; term = t })) ≡ in_term t
marks-NextTerm op t = fold-roll-NextTerm Marks Marks Marks Marks Marks Marks Marks Marks Marks Marks
    Marks factor_form_marks selector_form_marks designator_marks expression_marks factor_marks
    next_factor_marks next_term_marks relation_marks selector_marks simple_expression_marks
    term_marks _

marks-Expr : (s : Span) (e : SimpleExpr) (r : Option Relation) →
    in_expression (roll-Expr (record { span = s; left = e; relation = r })) ≡
    spanned s (both (in_simple_expression e) (maybe (option_map in_relation r)))
marks-Expr s e None = fold-roll-Expr Marks Marks Marks Marks Marks Marks Marks Marks Marks Marks
    Marks factor_form_marks selector_form_marks designator_marks expression_marks factor_marks
    next_factor_marks next_term_marks relation_marks selector_marks simple_expression_marks
    term_marks _
marks-Expr s e (Some r) = fold-roll-Expr Marks Marks Marks Marks Marks Marks Marks Marks Marks Marks
    Marks factor_form_marks selector_form_marks designator_marks expression_marks factor_marks
    next_factor_marks next_term_marks relation_marks selector_marks simple_expression_marks
    term_marks _

marks-Relation : (op : Kind) (e : SimpleExpr) →
    in_relation (roll-Relation (record { op = op; right = e })) ≡ in_simple_expression e
marks-Relation op e = fold-roll-Relation Marks Marks Marks Marks Marks Marks Marks Marks Marks Marks
    Marks factor_form_marks selector_form_marks designator_marks expression_marks factor_marks
    next_factor_marks next_term_marks relation_marks selector_marks simple_expression_marks
    term_marks _

marks-TypeName : (s : Span) (k : ℕ) →
    in_type_expression (roll-TypeExpr (record { span = s; form = shape.Name k })) ≡
    spanned s (named k)
marks-TypeName s k = fold-roll-TypeExpr Marks Marks Marks type_form_marks name_list_marks
    type_expression_marks _ ∙ ap (spanned s)
    (ap in_type_form (sym (shape.rolls-Name k)) ∙ fold-roll-TypeForm Marks Marks Marks
    type_form_marks name_list_marks type_expression_marks (TypeForm-F.Name k))

marks-Array : (s : Span) (e : Expr) (t : TypeExpr) →
    in_type_expression (roll-TypeExpr (record { span = s; form = shape.Array e t })) ≡
    spanned s (both (in_expression e) (in_type_expression t))
marks-Array s e t = fold-roll-TypeExpr Marks Marks Marks type_form_marks name_list_marks
    type_expression_marks _ ∙ ap (spanned s)
    (ap in_type_form (sym (shape.rolls-Array e t)) ∙ fold-roll-TypeForm Marks Marks Marks
    type_form_marks name_list_marks type_expression_marks (TypeForm-F.Array e t))

marks-Record : (s : Span) (fs : List Names) →
    in_type_expression (roll-TypeExpr (record { span = s; form = shape.Record fs })) ≡
    spanned s (all (map in_name_list fs))
marks-Record s fs = fold-roll-TypeExpr Marks Marks Marks type_form_marks name_list_marks
    type_expression_marks _ ∙ ap (spanned s)
    (ap in_type_form (sym (shape.rolls-Record fs)) ∙ fold-roll-TypeForm Marks Marks Marks
    type_form_marks name_list_marks type_expression_marks (TypeForm-F.Record fs))

marks-NameList : (ks : List ℕ) (t : TypeExpr) →
    in_name_list (roll-NameList (record { names = ks; shape = t })) ≡ both (all (map named ks))
    (in_type_expression t)
marks-NameList ks t = fold-roll-NameList Marks Marks Marks type_form_marks name_list_marks
    type_expression_marks _

marks-Assign : (s : Span) (d : Designator) (e : Expr) →
    in_statement (roll-Stmt (record { span = s; form = form.Assign d e })) ≡
    spanned s (both (in_designator d) (in_expression e))
marks-Assign s d e = fold-roll-Stmt Marks Marks Marks statement_form_marks arm_marks statement_marks
    _ ∙ ap (spanned s) (ap in_statement_form (sym (form.rolls-Assign d e))
    ∙ fold-roll-StmtForm Marks Marks Marks statement_form_marks arm_marks statement_marks
    (StmtForm-F.Assign d e))

marks-Call : (s : Span) (k : ℕ) (es : List Expr) →
    in_statement (roll-Stmt (record { span = s; form = form.Call k es })) ≡
    spanned s (both (named k) (all (map in_expression es)))
marks-Call s k es = fold-roll-Stmt Marks Marks Marks statement_form_marks arm_marks statement_marks
    _ ∙ ap (spanned s) (ap in_statement_form (sym (form.rolls-Call k es))
    ∙ fold-roll-StmtForm Marks Marks Marks statement_form_marks arm_marks statement_marks
    (StmtForm-F.Call k es))

marks-If : (s : Span) (xs : List ArmTree) (others : List Stmt) →
    in_statement (roll-Stmt (record { span = s; form = form.If xs others })) ≡
    spanned s (both (all (map in_arm xs)) (all (map in_statement others)))
marks-If s xs others = fold-roll-Stmt Marks Marks Marks statement_form_marks arm_marks
    statement_marks _ ∙ ap (spanned s) (ap in_statement_form (sym (form.rolls-If xs others))
    ∙ fold-roll-StmtForm Marks Marks Marks statement_form_marks arm_marks statement_marks
    (StmtForm-F.If xs others))

marks-While : (s : Span) (e : Expr) (ss : List Stmt) →
    in_statement (roll-Stmt (record { span = s; form = form.While e ss })) ≡
    spanned s (both (in_expression e) (all (map in_statement ss)))
marks-While s e ss = fold-roll-Stmt Marks Marks Marks statement_form_marks arm_marks statement_marks
    _ ∙ ap (spanned s) (ap in_statement_form (sym (form.rolls-While e ss))
    ∙ fold-roll-StmtForm Marks Marks Marks statement_form_marks arm_marks statement_marks
    (StmtForm-F.While e ss))

marks-Repeat : (s : Span) (ss : List Stmt) (e : Expr) →
    in_statement (roll-Stmt (record { span = s; form = form.Repeat ss e })) ≡
    spanned s (both (all (map in_statement ss)) (in_expression e))
marks-Repeat s ss e = fold-roll-Stmt Marks Marks Marks statement_form_marks arm_marks
    statement_marks _ ∙ ap (spanned s)
    (ap in_statement_form (sym (form.rolls-Repeat ss e)) ∙ fold-roll-StmtForm Marks Marks Marks
    statement_form_marks arm_marks statement_marks (StmtForm-F.Repeat ss e))

marks-Arm : (e : Expr) (ss : List Stmt) → in_arm (roll-Arm (record { test = e; body = ss })) ≡
    both (in_expression e) (all (map in_statement ss))
marks-Arm e ss = fold-roll-Arm Marks Marks Marks statement_form_marks arm_marks statement_marks _

marks-Decls : (cs : List ConstDecl) (ts : List TypeDecl) (vs : List Names) (ps : List Proc) →
    in_declarations (roll-Decls (record { consts = cs; types = ts; vars = vs; procs = ps })) ≡
    both (all (map in_constant cs))
    (both (all (map in_type ts)) (both (all (map in_name_list vs)) (all (map in_procedure ps))))
marks-Decls cs ts vs ps = fold-roll-Decls Marks Marks declarations_marks procedure_marks _

marks-Proc : (s : Span) (k : ℕ) (xs : List SectionTree) (ds : Decls) (ss : List Stmt) (close : ℕ) →
    in_procedure (roll-Proc (record {
      span = s;
      name = k;
      params = xs;
      decls = ds;
      body = ss;
      close = close;
    })) ≡ spanned s
    (both (named k) (both (all (map in_section xs))
    (both (in_declarations ds) (both (all (map in_statement ss)) (named close)))))
marks-Proc s k xs ds ss close = fold-roll-Proc Marks Marks declarations_marks procedure_marks _

-- what a phrase of each nonterminal holds
abbrev marks_of : (n : Nonterminal) → Tree n → Marks
marks_of Selectors ts = all (map in_selector ts)
marks_of Selector t = in_selector t
marks_of Factor t = in_factor t
marks_of Factors ts = all (map in_next_factor ts)
marks_of Term t = in_term t
marks_of Terms ts = all (map in_next_term ts)
marks_of Sign t = none
marks_of SimpleExpression t = in_simple_expression t
marks_of Comparison t = maybe (option_map in_relation t)
marks_of Expression t = in_expression t
marks_of ArgumentList ts = all (map in_expression ts)
marks_of Arguments ts = all (map in_expression ts)
marks_of ActualParameters ts = all (map in_expression ts)
marks_of Arm t = in_arm t
marks_of Elsifs ts = all (map in_arm ts)
marks_of Arms ts = all (map in_arm ts)
marks_of Else ts = all (map in_statement ts)
marks_of Action t = in_statement t
marks_of Statement t = maybe (option_map in_statement t)
marks_of Statements ts = all (map in_statement ts)
marks_of StatementSequence ts = all (map in_statement ts)
marks_of Idents ts = all (map named ts)
marks_of IdentList ts = all (map named ts)
marks_of NameList t = in_name_list t
marks_of FieldList t = maybe (option_map in_name_list t)
marks_of FieldLists ts = all (map in_name_list ts)
marks_of FieldSequence ts = all (map in_name_list ts)
marks_of TypeExpression t = in_type_expression t
marks_of ByVar t = none
marks_of Section t = in_section t
marks_of Sections ts = all (map in_section ts)
marks_of SectionList ts = all (map in_section ts)
marks_of FormalParameters ts = all (map in_section ts)
marks_of Procedure t = in_procedure t
marks_of Procedures ts = all (map in_procedure ts)
marks_of Constant t = in_constant t
marks_of ConstantList ts = all (map in_constant ts)
marks_of Constants ts = all (map in_constant ts)
marks_of TypeDeclaration t = in_type t
marks_of TypeList ts = all (map in_type ts)
marks_of Types ts = all (map in_type ts)
marks_of VariableList ts = all (map in_name_list ts)
marks_of Variables ts = all (map in_name_list ts)
marks_of Declarations t = in_declarations t
marks_of Body ts = all (map in_statement ts)
marks_of Module t = spanned t.span (in_module t)

-- ---- tokens in their list

next_is : (ks : List Kind) (i : ℕ) (k : Kind) (rest : List Kind) → drop i ks ≡ k ∷ rest →
    (slice_get ks i ≡ Some k) × (drop (suc i) ks ≡ rest)
next_is [] zero k rest e = cc
next_is [] (suc i) k rest e = cc
next_is (x ∷ ks) zero k rest e = (cc, cc)
next_is (x ∷ ks) (suc i) k rest e = next_is ks i k rest e

mutual
  behind : (ks : List Kind) (n : Nonterminal) (f : Form n) (i : ℕ) (rest : List Kind) → drop i ks ≡
      spell n f rest → drop (end n i f) ks ≡ rest
  behind ks n (made _ r ps) i rest e = all_behind ks (right r) ps i rest e

  all_behind : (ks : List Kind) (ss : List Symbol) (ps : Parts ss) (i : ℕ) (rest : List Kind) →
      drop i ks ≡ spells ss ps rest → drop (ends ss i ps) ks ≡ rest
  all_behind ks _ done i rest e = e
  all_behind ks _ (taken k ss ps) i rest e = all_behind ks ss ps (i + 1) rest
      (rw add-one (next_is ks i k (spells ss ps rest) e).1)
  all_behind ks _ (part d m ss f ps) i rest e = all_behind ks ss ps (end m i f) rest
      (behind ks m f i (spells ss ps rest) e)

mutual
  end_counts : (n : Nonterminal) (i : ℕ) (f : Form n) → end n i f ≡ i + length (text n f)
  end_counts n i (made _ r ps) = ends_count (right r) i ps

  ends_count : (ss : List Symbol) (i : ℕ) (ps : Parts ss) → ends ss i ps ≡ i + length (texts ss ps)
  ends_count _ i done = omega arith
  ends_count _ i (taken k ss ps) = let rest = ends_count ss (i + 1) ps in omega arith
  ends_count _ i (part d m ss f ps) =
      let first = end_counts m i f in
      let rest = ends_count ss (end m i f) ps in
      omega (arith, length-append (text m f) (texts ss ps))

least_end : (ps : Parts (right a_module)) → 1 ≤ ends (right a_module) 0 ps
least_end (taken _ ss ps) = all_stay ss 1 ps

-- ---- each production

module _ (ks : List Kind) where
  abbrev Hold : Marks → Span → Type 0
  Hold f s = Each (IsMark ks) (f s)

  each_append : (xs ys : List Mark) → Each (IsMark ks) xs → Each (IsMark ks) ys →
      Each (IsMark ks) (xs ++ ys)
  each_append [] ys h g = g
  each_append (x ∷ xs) ys h g = (h.0, each_append xs ys h.1 g)

  hold_both : (f g : Marks) (s : Span) → Hold f s → Hold g s → Hold (both f g) s
  hold_both f g s a b = each_append (f s) (g s) a b

  hold_one : {A : Type 0} (g : A → Marks) (x : A) (xs : List A) (s : Span) → Hold (g x) s →
      Hold (all (map g xs)) s → Hold (all (map g (x ∷ xs))) s
  hold_one g x xs s a b = each_append (g x s) (all (map g xs) s) a b

  hold_some : {A : Type 0} (g : A → Marks) (x : Option A) (xs : List A) (s : Span) →
      Hold (maybe (option_map g x)) s → Hold (all (map g xs)) s →
      Hold (all (map g (option_to_list x ++ xs))) s
  hold_some g None xs s a b = b
  hold_some g (Some x) xs s a b = hold_one g x xs s a b

  -- a token of this kind stands there, in the span
  abbrev Stands : Kind → ℕ → Span → Type 0
  Stands k i s = (s.first ≤ i) × (i ≤ s.last) × (slice_get ks i ≡ Some k)

  abbrev Holds : (ss : List Symbol) → Values ss → Span → Type 0
  Holds [] v s = Unit {0}
  Holds (token k ∷ ss) v s = Stands k v.0 s × Holds ss v.1 s
  Holds (phrase d m ∷ ss) v s = Hold (marks_of m v.0) s × Holds ss v.1 s

  is : (f g : Marks) (s : Span) → f ≡ g → Hold g s → Hold f s
  is f g s e h = subst (λ x. Hold x s) (sym e) h

  -- a phrase of these tokens, the first of which is there
  hold_span : (f : Marks) (i j k : ℕ) (s : Span) → (i ≤ k) × (k ≤ j - 1) → s.first ≤ i →
      j ≤ s.last + 1 → Hold f (span_to i j) → Hold (spanned (span_to i j) f) s
  hold_span f i j k s at low high h = ((omega (arith, at.0, at.1), low, omega arith), h)

  factor_at : (f : FactorTree) (s : Span) → Hold (in_factor f) s → (k : ℕ) × (s.first ≤ k) ×
      (k ≤ s.last)
  factor_at f s h = first_at
      (subst (λ x. Hold x s) (fold_out-Factor Marks Marks Marks Marks Marks Marks Marks Marks Marks
      Marks Marks factor_form_marks selector_form_marks designator_marks expression_marks
      factor_marks next_factor_marks next_term_marks relation_marks selector_marks
      simple_expression_marks term_marks f) h)
    where
      first_at : Hold (spanned (out-Factor f).span (in_factor_form (out-Factor f).form)) s →
          (k : ℕ) × (s.first ≤ k) × (k ≤ s.last)
      first_at p = ((out-Factor f).span.first, p.0.1, omega (arith, p.0.0, p.0.2))

  term_at : (t : TermTree) (s : Span) → Hold (in_term t) s → (k : ℕ) × (s.first ≤ k) × (k ≤ s.last)
  term_at t s h = first_at
      (subst (λ x. Hold x s) (fold_out-Term Marks Marks Marks Marks Marks Marks Marks Marks Marks
      Marks Marks factor_form_marks selector_form_marks designator_marks expression_marks
      factor_marks next_factor_marks next_term_marks relation_marks selector_marks
      simple_expression_marks term_marks t) h)
    where
      first_at : Hold (spanned (out-Term t).span
          (both (in_factor (out-Term t).first) (all (map in_next_factor (out-Term t).rest)))) s →
          (k : ℕ) × (s.first ≤ k) × (k ≤ s.last)
      first_at p = ((out-Term t).span.first, p.0.1, omega (arith, p.0.0, p.0.2))

  simple_at : (e : SimpleExpr) (s : Span) → Hold (in_simple_expression e) s → (k : ℕ) ×
      (s.first ≤ k) × (k ≤ s.last)
  simple_at e s h = first_at
      (subst (λ x. Hold x s) (fold_out-SimpleExpr Marks Marks Marks Marks Marks Marks Marks Marks
      Marks Marks Marks factor_form_marks selector_form_marks designator_marks expression_marks
      factor_marks next_factor_marks next_term_marks relation_marks selector_marks
      simple_expression_marks term_marks e) h)
    where
      first_at : Hold (spanned (out-SimpleExpr e).span
          (both (in_term (out-SimpleExpr e).first)
          (all (map in_next_term (out-SimpleExpr e).rest)))) s → (k : ℕ) × (s.first ≤ k) ×
          (k ≤ s.last)
      first_at p = ((out-SimpleExpr e).span.first, p.0.1, omega (arith, p.0.0, p.0.2))

  low_own : (i : ℕ) → i ≤ i
  low_own i = omega arith

  high_own : (j : ℕ) → j ≤ j - 1 + 1
  high_own j = omega arith

  -- a token and a phrase, behind which another token stands, lie before it
  abbrev Front : (ss : List Symbol) → ℕ → Values ss → Type 0
  Front (token k ∷ (phrase d m ∷ (token k' ∷ ss))) i v = Stands k v.0 (span_to i v.1.1.0) ×
      Hold (marks_of m v.1.0) (span_to i v.1.1.0)
  Front _ i v = Unit {0}

  rule_holds : (n : Nonterminal) (r : Rule n) (i j : ℕ) (v : Values (right r)) (s : Span) →
      s.first ≤ i → j ≤ s.last + 1 → Front (right r) i v
      → ((around : Span) → around.first ≤ i → j ≤ around.last + 1 → Holds (right r) v around) →
      Hold (marks_of n (tree_by r i j v)) s
  rule_holds _ no_selectors i j v s low high front hold = tt
  rule_holds _ next_selector i j v s low high front hold =
      let h = hold s low high in hold_one in_selector v.0 v.1.0 s h.0 h.1.0
  rule_holds _ field i j v s low high front hold =
      let h = hold (span_to i j) (low_own i) (high_own j) in
      is _ _ s (marks-Field (span_to i j) v.1.0)
      (hold_span (named v.1.0) i j _ s (h.0.0, h.0.1) low high (h.1.0, tt))
  rule_holds _ index i j v s low high front hold =
      let h = hold (span_to i j) (low_own i) (high_own j) in
      is _ _ s (marks-Index (span_to i j) v.1.0)
      (hold_span (in_expression v.1.0) i j _ s (h.0.0, h.0.1) low high h.1.0)
  rule_holds _ name i j v s low high front hold =
      let h = hold (span_to i j) (low_own i) (high_own j) in
      let d = is _ _ (span_to i j) (marks-Designator (span_to i j) v.0 v.1.0)
      (hold_span (both (named v.0) (all (map in_selector v.1.0))) i j v.0 (span_to i j)
      (h.0.0, h.0.1) (low_own i) (high_own j)
      (hold_both (named v.0) (all (map in_selector v.1.0)) (span_to i j) (h.0, tt) h.1.0)) in
      is _ _ s (marks-Name (span_to i j) _)
      (hold_span (in_designator
      (roll-Designator (record { span = span_to i j; name = v.0; selectors = v.1.0 }))) i j v.0
      s (h.0.0, h.0.1) low high d)
  rule_holds _ (number n) i j v s low high front hold =
      let h = hold (span_to i j) (low_own i) (high_own j) in
      is _ _ s (marks-Number (span_to i j) n) (hold_span (none) i j _ s (h.0.0, h.0.1) low high tt)
  rule_holds _ parenthesis i j v s low high front hold =
      let h = hold (span_to i j) (low_own i) (high_own j) in
      is _ _ s (marks-Paren (span_to i j) v.1.0)
      (hold_span (in_expression v.1.0) i j _ s (h.0.0, h.0.1) low high h.1.0)
  rule_holds _ negation i j v s low high front hold =
      let h = hold (span_to i j) (low_own i) (high_own j) in
      is _ _ s (marks-Not (span_to i j) v.1.0)
      (hold_span (in_factor v.1.0) i j _ s (h.0.0, h.0.1) low high h.1.0)
  rule_holds _ term i j v s low high front hold =
      let h = hold (span_to i j) (low_own i) (high_own j) in
      let at = factor_at v.0 (span_to i j) h.0 in
      is _ _ s (marks-Term (span_to i j) v.0 v.1.0)
      (hold_span (both (in_factor v.0) (all (map in_next_factor v.1.0))) i j at.0 s
      (at.1, at.2) low high (hold_both (in_factor v.0) (all (map in_next_factor v.1.0))
      (span_to i j) h.0 h.1.0))
  rule_holds _ no_factors i j v s low high front hold = tt
  rule_holds _ (next_factor op) i j v s low high front hold =
      let h = hold s low high in hold_one in_next_factor _ v.1.1.0 s
      (is _ _ s (marks-NextFactor _ v.1.0) h.1.0) h.1.1.0
  rule_holds _ simple_expression i j v s low high front hold =
      let h = hold (span_to i j) (low_own i) (high_own j) in
      let at = term_at v.1.0 (span_to i j) h.1.0 in
      is _ _ s (marks-SimpleExpr (span_to i j) v.0 v.1.0 v.1.1.0)
      (hold_span (both (in_term v.1.0) (all (map in_next_term v.1.1.0))) i j at.0 s
      (at.1, at.2) low high (hold_both (in_term v.1.0) (all (map in_next_term v.1.1.0))
      (span_to i j) h.1.0 h.1.1.0))
  rule_holds _ no_sign i j v s low high front hold = tt
  rule_holds _ plus_sign i j v s low high front hold = tt
  rule_holds _ minus_sign i j v s low high front hold = tt
  rule_holds _ no_terms i j v s low high front hold = tt
  rule_holds _ (next_term op) i j v s low high front hold =
      let h = hold s low high in hold_one in_next_term _ v.1.1.0 s
      (is _ _ s (marks-NextTerm _ v.1.0) h.1.0) h.1.1.0
  rule_holds _ expression i j v s low high front hold =
      let h = hold (span_to i j) (low_own i) (high_own j) in
      let at = simple_at v.0 (span_to i j) h.0 in
      is _ _ s (marks-Expr (span_to i j) v.0 v.1.0)
      (hold_span (both (in_simple_expression v.0) (maybe (option_map in_relation v.1.0))) i j
      at.0 s (at.1, at.2) low high
      (hold_both (in_simple_expression v.0) (maybe (option_map in_relation v.1.0)) (span_to i j)
      h.0 h.1.0))
  rule_holds _ no_comparison i j v s low high front hold = tt
  rule_holds _ (comparison op) i j v s low high front hold =
      let h = hold s low high in is _ _ s (marks-Relation _ v.1.0) h.1.0
  rule_holds _ parameters i j v s low high front hold =
      let h = hold s low high in h.1.0
  rule_holds _ no_arguments i j v s low high front hold = tt
  rule_holds _ arguments i j v s low high front hold =
      let h = hold s low high in hold_one in_expression v.0 v.1.0 s h.0 h.1.0
  rule_holds _ last_argument i j v s low high front hold = tt
  rule_holds _ next_argument i j v s low high front hold =
      let h = hold s low high in hold_one in_expression v.1.0 v.1.1.0 s h.1.0 h.1.1.0
  rule_holds _ assignment i j v s low high front hold =
      let h = hold (span_to i j) (low_own i) (high_own j) in
      let k = v.1.1.0 in
      let target = roll-Designator (record { span = span_to i k; name = v.0; selectors = v.1.0 }) in
      let before = h.1.1.0.1 in
      let d = is _ _ (span_to i j) (marks-Designator (span_to i k) v.0 v.1.0)
      (hold_span (both (named v.0) (all (map in_selector v.1.0))) i k v.0 (span_to i j)
      (front.0.0, front.0.1) (low_own i) (omega arith)
      (hold_both (named v.0) (all (map in_selector v.1.0)) (span_to i k) (front.0, tt) front.1))
      in
      is _ _ s (marks-Assign (span_to i j) target v.1.1.1.0)
      (hold_span (both (in_designator target) (in_expression v.1.1.1.0)) i j v.0 s
      (h.0.0, h.0.1) low high (hold_both (in_designator target) (in_expression v.1.1.1.0)
      (span_to i j) d h.1.1.1.0))
  rule_holds _ call i j v s low high front hold =
      let h = hold (span_to i j) (low_own i) (high_own j) in
      is _ _ s (marks-Call (span_to i j) v.0 v.1.0)
      (hold_span (both (named v.0) (all (map in_expression v.1.0))) i j _ s (h.0.0, h.0.1) low
      high (hold_both (named v.0) (all (map in_expression v.1.0)) (span_to i j)
      (h.0, tt) h.1.0))
  rule_holds _ no_parameters i j v s low high front hold = tt
  rule_holds _ if_statement i j v s low high front hold =
      let h = hold (span_to i j) (low_own i) (high_own j) in
      is _ _ s (marks-If (span_to i j) v.1.0 v.1.1.0)
      (hold_span (both (all (map in_arm v.1.0)) (all (map in_statement v.1.1.0))) i j _ s
      (h.0.0, h.0.1) low high (hold_both (all (map in_arm v.1.0))
      (all (map in_statement v.1.1.0)) (span_to i j) h.1.0 h.1.1.0))
  rule_holds _ arms i j v s low high front hold =
      let h = hold s low high in hold_one in_arm v.0 v.1.0 s h.0 h.1.0
  rule_holds _ arm i j v s low high front hold =
      let h = hold s low high in is _ _ s (marks-Arm v.0 v.1.1.0)
      (hold_both (in_expression v.0) (all (map in_statement v.1.1.0)) s h.0 h.1.1.0)
  rule_holds _ no_elsif i j v s low high front hold = tt
  rule_holds _ next_elsif i j v s low high front hold =
      let h = hold s low high in hold_one in_arm v.1.0 v.1.1.0 s h.1.0 h.1.1.0
  rule_holds _ no_else i j v s low high front hold = tt
  rule_holds _ otherwise i j v s low high front hold =
      let h = hold s low high in h.1.0
  rule_holds _ while_statement i j v s low high front hold =
      let h = hold (span_to i j) (low_own i) (high_own j) in
      is _ _ s (marks-While (span_to i j) v.1.0 v.1.1.1.0)
      (hold_span (both (in_expression v.1.0) (all (map in_statement v.1.1.1.0))) i j _ s
      (h.0.0, h.0.1) low high (hold_both (in_expression v.1.0)
      (all (map in_statement v.1.1.1.0)) (span_to i j) h.1.0 h.1.1.1.0))
  rule_holds _ repeat_statement i j v s low high front hold =
      let h = hold (span_to i j) (low_own i) (high_own j) in
      is _ _ s (marks-Repeat (span_to i j) v.1.0 v.1.1.1.0)
      (hold_span (both (all (map in_statement v.1.0)) (in_expression v.1.1.1.0)) i j _ s
      (h.0.0, h.0.1) low high (hold_both (all (map in_statement v.1.0))
      (in_expression v.1.1.1.0) (span_to i j) h.1.0 h.1.1.1.0))
  rule_holds _ empty_statement i j v s low high front hold = tt
  rule_holds _ statement i j v s low high front hold =
      let h = hold s low high in h.0
  rule_holds _ statement_sequence i j v s low high front hold =
      let h = hold s low high in hold_some in_statement v.0 v.1.0 s h.0 h.1.0
  rule_holds _ last_statement i j v s low high front hold = tt
  rule_holds _ next_statement i j v s low high front hold =
      let h = hold s low high in hold_some in_statement v.1.0 v.1.1.0 s h.1.0 h.1.1.0
  rule_holds _ ident_list i j v s low high front hold =
      let h = hold s low high in hold_one named v.0 v.1.0 s (h.0, tt) h.1.0
  rule_holds _ last_ident i j v s low high front hold = tt
  rule_holds _ next_ident i j v s low high front hold =
      let h = hold s low high in hold_one named v.1.0 v.1.1.0 s (h.1.0, tt) h.1.1.0
  rule_holds _ type_name i j v s low high front hold =
      let h = hold (span_to i j) (low_own i) (high_own j) in
      is _ _ s (marks-TypeName (span_to i j) v.0)
      (hold_span (named v.0) i j _ s (h.0.0, h.0.1) low high (h.0, tt))
  rule_holds _ array i j v s low high front hold =
      let h = hold (span_to i j) (low_own i) (high_own j) in
      is _ _ s (marks-Array (span_to i j) v.1.0 v.1.1.1.0)
      (hold_span (both (in_expression v.1.0) (in_type_expression v.1.1.1.0)) i j _ s
      (h.0.0, h.0.1) low high (hold_both (in_expression v.1.0) (in_type_expression v.1.1.1.0)
      (span_to i j) h.1.0 h.1.1.1.0))
  rule_holds _ record_type i j v s low high front hold =
      let h = hold (span_to i j) (low_own i) (high_own j) in
      is _ _ s (marks-Record (span_to i j) v.1.0)
      (hold_span (all (map in_name_list v.1.0)) i j _ s (h.0.0, h.0.1) low high h.1.0)
  rule_holds _ field_sequence i j v s low high front hold =
      let h = hold s low high in hold_some in_name_list v.0 v.1.0 s h.0 h.1.0
  rule_holds _ name_list i j v s low high front hold =
      let h = hold s low high in is _ _ s (marks-NameList v.0 v.1.1.0)
      (hold_both (all (map named v.0)) (in_type_expression v.1.1.0) s h.0 h.1.1.0)
  rule_holds _ empty_field_list i j v s low high front hold = tt
  rule_holds _ field_list i j v s low high front hold =
      let h = hold s low high in h.0
  rule_holds _ last_field_list i j v s low high front hold = tt
  rule_holds _ next_field_list i j v s low high front hold =
      let h = hold s low high in hold_some in_name_list v.1.0 v.1.1.0 s h.1.0 h.1.1.0
  rule_holds _ section i j v s low high front hold =
      let h = hold s low high in hold_both (all (map named v.1.0)) (in_type_expression v.1.1.1.0) s
      h.1.0 h.1.1.1.0
  rule_holds _ by_value i j v s low high front hold = tt
  rule_holds _ by_var i j v s low high front hold = tt
  rule_holds _ formals i j v s low high front hold =
      let h = hold s low high in h.1.0
  rule_holds _ no_sections i j v s low high front hold = tt
  rule_holds _ sections i j v s low high front hold =
      let h = hold s low high in hold_one in_section v.0 v.1.0 s h.0 h.1.0
  rule_holds _ last_section i j v s low high front hold = tt
  rule_holds _ next_section i j v s low high front hold =
      let h = hold s low high in hold_one in_section v.1.0 v.1.1.0 s h.1.0 h.1.1.0
  rule_holds _ procedure i j v s low high front hold =
      let h = hold (span_to i j) (low_own i) (high_own j) in
      is _ _ s (marks-Proc (span_to i j) v.1.0 v.1.1.0 v.1.1.1.1.0 v.1.1.1.1.1.0 v.1.1.1.1.1.1.1.0)
      (hold_span (both (named v.1.0)
      (both (all (map in_section v.1.1.0))
      (both (in_declarations v.1.1.1.1.0)
      (both (all (map in_statement v.1.1.1.1.1.0)) (named v.1.1.1.1.1.1.1.0))))) i j _ s
      (h.0.0, h.0.1) low high (hold_both (named v.1.0)
      (both (all (map in_section v.1.1.0))
      (both (in_declarations v.1.1.1.1.0)
      (both (all (map in_statement v.1.1.1.1.1.0)) (named v.1.1.1.1.1.1.1.0)))) (span_to i j)
      (h.1.0, tt) (hold_both (all (map in_section v.1.1.0))
      (both (in_declarations v.1.1.1.1.0)
      (both (all (map in_statement v.1.1.1.1.1.0)) (named v.1.1.1.1.1.1.1.0))) (span_to i j)
      h.1.1.0 (hold_both (in_declarations v.1.1.1.1.0)
      (both (all (map in_statement v.1.1.1.1.1.0)) (named v.1.1.1.1.1.1.1.0)) (span_to i j)
      h.1.1.1.1.0 (hold_both (all (map in_statement v.1.1.1.1.1.0)) (named v.1.1.1.1.1.1.1.0)
      (span_to i j) h.1.1.1.1.1.0 (h.1.1.1.1.1.1.1.0, tt))))))
  rule_holds _ no_formals i j v s low high front hold = tt
  rule_holds _ no_body i j v s low high front hold = tt
  rule_holds _ body i j v s low high front hold =
      let h = hold s low high in h.1.0
  rule_holds _ declarations i j v s low high front hold =
      let h = hold s low high in is _ _ s (marks-Decls v.0 v.1.0 v.1.1.0 v.1.1.1.0)
      (hold_both (all (map in_constant v.0))
      (both (all (map in_type v.1.0))
      (both (all (map in_name_list v.1.1.0)) (all (map in_procedure v.1.1.1.0)))) s h.0
      (hold_both (all (map in_type v.1.0))
      (both (all (map in_name_list v.1.1.0)) (all (map in_procedure v.1.1.1.0))) s h.1.0
      (hold_both (all (map in_name_list v.1.1.0)) (all (map in_procedure v.1.1.1.0)) s h.1.1.0
      h.1.1.1.0)))
  rule_holds _ no_constants i j v s low high front hold = tt
  rule_holds _ constants i j v s low high front hold =
      let h = hold s low high in h.1.0
  rule_holds _ last_constant i j v s low high front hold = tt
  rule_holds _ next_constant i j v s low high front hold =
      let h = hold s low high in hold_one in_constant v.0 v.1.1.0 s h.0 h.1.1.0
  rule_holds _ no_types i j v s low high front hold = tt
  rule_holds _ types i j v s low high front hold =
      let h = hold s low high in h.1.0
  rule_holds _ last_type i j v s low high front hold = tt
  rule_holds _ next_type i j v s low high front hold =
      let h = hold s low high in hold_one in_type v.0 v.1.1.0 s h.0 h.1.1.0
  rule_holds _ constant i j v s low high front hold =
      let h = hold s low high in hold_both (named v.0) (in_expression v.1.1.0) s (h.0, tt) h.1.1.0
  rule_holds _ type_declaration i j v s low high front hold =
      let h = hold s low high in hold_both (named v.0) (in_type_expression v.1.1.0) s
      (h.0, tt) h.1.1.0
  rule_holds _ no_variables i j v s low high front hold = tt
  rule_holds _ variables i j v s low high front hold =
      let h = hold s low high in h.1.0
  rule_holds _ last_variables i j v s low high front hold = tt
  rule_holds _ next_variables i j v s low high front hold =
      let h = hold s low high in hold_one in_name_list v.0 v.1.1.0 s h.0 h.1.1.0
  rule_holds _ no_procedures i j v s low high front hold = tt
  rule_holds _ next_procedure i j v s low high front hold =
      let h = hold s low high in hold_one in_procedure v.0 v.1.1.0 s h.0 h.1.1.0
  rule_holds _ a_module i j v s low high front hold =
      let h = hold (span_to i j) (low_own i) (high_own j) in
      hold_span (both (named v.1.0)
      (both (in_declarations v.1.1.1.0)
      (both (all (map in_statement v.1.1.1.1.0)) (named v.1.1.1.1.1.1.0)))) i j _ s
      (h.0.0, h.0.1) low high (hold_both (named v.1.0)
      (both (in_declarations v.1.1.1.0)
      (both (all (map in_statement v.1.1.1.1.0)) (named v.1.1.1.1.1.1.0))) (span_to i j)
      (h.1.0, tt) (hold_both (in_declarations v.1.1.1.0)
      (both (all (map in_statement v.1.1.1.1.0)) (named v.1.1.1.1.1.1.0)) (span_to i j)
      h.1.1.1.0 (hold_both (all (map in_statement v.1.1.1.1.0)) (named v.1.1.1.1.1.1.0)
      (span_to i j) h.1.1.1.1.0 (h.1.1.1.1.1.1.0, tt))))

  mutual
    form_holds : (n : Nonterminal) (f : Form n) (i : ℕ) (rest : List Kind) (s : Span) → drop i ks ≡
        spell n f rest → s.first ≤ i → end n i f ≤ s.last + 1 → Hold (marks_of n (tree n i f)) s
    form_holds n (made _ r ps) i rest s at low high =
        rule_holds n r i (ends (right r) i ps) (values (right r) i ps) s low high
        (front_holds (right r) ps i rest at)
        (λ around le ge. parts_hold (right r) ps i rest around at le ge)

    parts_hold : (ss : List Symbol) (ps : Parts ss) (i : ℕ) (rest : List Kind) (s : Span) →
        drop i ks ≡ spells ss ps rest → s.first ≤ i → ends ss i ps ≤ s.last + 1 →
        Holds ss (values ss i ps) s
    parts_hold _ done i rest s at low high = tt
    parts_hold _ (taken k ss ps) i rest s at low high =
        let next = next_is ks i k (spells ss ps rest) at in
        let more = all_stay ss (i + 1) ps in (
          (low, omega arith, next.0),
          parts_hold ss ps (i + 1) rest s (rw add-one next.1)
              (omega arith) high,
        )
    parts_hold _ (part d m ss f ps) i rest s at low high =
        let more = all_stay ss (end m i f) ps in
        let before = stays m i f in (
          form_holds m f i (spells ss ps rest) s at low (omega arith),
          parts_hold ss ps (end m i f) rest s (behind ks m f i (spells ss ps rest) at)
              (omega arith) high,
        )

    front_holds : (ss : List Symbol) (ps : Parts ss) (i : ℕ) (rest : List Kind) → drop i ks ≡
        spells ss ps rest → Front ss i (values ss i ps)
    front_holds _ done i rest at = tt
    front_holds _ (part _ _ _ _ ps) i rest at = tt
    front_holds _ (taken _ _ done) i rest at = tt
    front_holds _ (taken _ _ (taken _ _ ps)) i rest at = tt
    front_holds _ (taken _ _ (part _ _ _ _ done)) i rest at = tt
    front_holds _ (taken _ _ (part _ _ _ _ (part _ _ _ _ ps))) i rest at = tt
    front_holds _ (taken k _ (part d m _ f (taken k' ss ps))) i rest at =
        let next = next_is ks i k (spell m f (k' ∷ spells ss ps rest)) at in
        let before = stays m (i + 1) f in (
          (low_own i, omega arith, next.0),
          form_holds m f (i + 1) (k' ∷ spells ss ps rest)
              (span_to i (end m (i + 1) f)) (rw add-one next.1) (omega arith)
              (high_own (end m (i + 1) f)),
        )

  pub numbered : (t : ModuleTree) → Derives Module ks t → IsNumbered ks t
  numbered t (f, spelled, tree_is) = subst (IsNumbered ks) (sym tree_is) (whole f spelled)
    where
      whole : (f : Form Module) → ks ≡ text Module f → IsNumbered ks (tree Module 0 f)
      whole (made _ a_module ps) spelled =
          let f = made Module a_module ps in
          let at : ks ≡ spell Module f [] = spelled ∙ sym (spell_whole Module f) in
          let last = ends_count (right a_module) 0 ps in
          let size = ap length spelled in
          let some = least_end ps in
          record {
            first = refl;
            last = omega arith;
            marks =
                (form_holds Module f 0 [] (span_to 0 (end Module 0 f)) at (low_own 0)
                (high_own (end Module 0 f))).1;
          }
