-- The numbers of tokens in a tree: the spans of its phrases, each with that of the phrase around
-- it, and the tokens of its names.
use Rattle.std.specs.Prelude.{◌≡◌, ℕ, ◌+◌, ◌≤◌, List, [], ◌∷◌, ◌++◌, length, map, slice_get, Option}
use Rattle.std.specs.Prelude.{Some, None}
use Rattle.std.specs.List.{AllByRecursion as Each}
use Rattle.ob_syntax.specs.declared.token.Kind.{Kind}
use Rattle.ob_syntax.specs.declared.token.Kind.TheVariants.{Ident}
use Rattle.ob_syntax.specs.declared.tree.Arm.{Arm, Arm-F, fold-Arm}
use Rattle.ob_syntax.specs.declared.tree.ConstDecl.{ConstDecl}
use Rattle.ob_syntax.specs.declared.tree.Decls.{Decls, Decls-F, fold-Decls}
use Rattle.ob_syntax.specs.declared.tree.Designator.{Designator, Designator-F, fold-Designator}
use Rattle.ob_syntax.specs.declared.tree.Expr.{Expr, Expr-F, fold-Expr}
use Rattle.ob_syntax.specs.declared.tree.Factor.{Factor, Factor-F, fold-Factor}
use Rattle.ob_syntax.specs.declared.tree.FactorForm.{FactorForm, FactorForm-F, fold-FactorForm}
use Rattle.ob_syntax.specs.declared.tree.Module.{Module}
use Rattle.ob_syntax.specs.declared.tree.NameList.{NameList, NameList-F, fold-NameList}
use Rattle.ob_syntax.specs.declared.tree.NextFactor.{NextFactor, NextFactor-F, fold-NextFactor}
use Rattle.ob_syntax.specs.declared.tree.NextTerm.{NextTerm, NextTerm-F, fold-NextTerm}
use Rattle.ob_syntax.specs.declared.tree.Proc.{Proc, Proc-F, fold-Proc}
use Rattle.ob_syntax.specs.declared.tree.Relation.{Relation, Relation-F, fold-Relation}
use Rattle.ob_syntax.specs.declared.tree.Section.{Section}
use Rattle.ob_syntax.specs.declared.tree.Selector.{Selector, Selector-F, fold-Selector}
use Rattle.ob_syntax.specs.declared.tree.SelectorForm.{SelectorForm, SelectorForm-F}
use Rattle.ob_syntax.specs.declared.tree.SelectorForm.{fold-SelectorForm}
use Rattle.ob_syntax.specs.declared.tree.SimpleExpr.{SimpleExpr, SimpleExpr-F, fold-SimpleExpr}
use Rattle.ob_syntax.specs.declared.tree.Span.{Span}
use Rattle.ob_syntax.specs.declared.tree.Stmt.{Stmt, Stmt-F, fold-Stmt}
use Rattle.ob_syntax.specs.declared.tree.StmtForm.{StmtForm, StmtForm-F, fold-StmtForm}
use Rattle.ob_syntax.specs.declared.tree.Term.{Term, Term-F, fold-Term}
use Rattle.ob_syntax.specs.declared.tree.TypeDecl.{TypeDecl}
use Rattle.ob_syntax.specs.declared.tree.TypeExpr.{TypeExpr, TypeExpr-F, fold-TypeExpr}
use Rattle.ob_syntax.specs.declared.tree.TypeForm.{TypeForm, TypeForm-F, fold-TypeForm}

-- a phrase, or the token of a name, and the span of the phrase around it
pub data Mark : Type 0 where
  phrase : Span → Span → Mark
  name : ℕ → Span → Mark

-- the marks of what stands in a phrase of some span
abbrev pub Marks : Type 0
Marks = Span → List Mark

abbrev pub none : Marks
none s = []

abbrev pub both : Marks → Marks → Marks
both f g s = f s ++ g s

abbrev pub all : List Marks → Marks
all [] s = []
all (f ∷ fs) s = f s ++ all fs s

abbrev pub maybe : Option Marks → Marks
maybe None s = []
maybe (Some f) s = f s

abbrev pub named : ℕ → Marks
named k s = name k s ∷ []

-- a phrase of this span, with what stands in it
abbrev pub spanned : Span → Marks → Marks
spanned own inside s = phrase own s ∷ inside own

-- ---- expressions: of each phrase, from what its parts hold

abbrev pub factor_form_marks :
    FactorForm-F Marks Marks Marks Marks Marks Marks Marks Marks Marks Marks Marks → Marks
factor_form_marks (FactorForm-F.Name d) = d
factor_form_marks (FactorForm-F.Number n) = none
factor_form_marks (FactorForm-F.Paren e) = e
factor_form_marks (FactorForm-F.Not f) = f

abbrev pub selector_form_marks :
    SelectorForm-F Marks Marks Marks Marks Marks Marks Marks Marks Marks Marks Marks → Marks
selector_form_marks (SelectorForm-F.Field k) = named k
selector_form_marks (SelectorForm-F.Index e) = e

abbrev pub designator_marks :
    Designator-F Marks Marks Marks Marks Marks Marks Marks Marks Marks Marks Marks → Marks
designator_marks d = spanned d.span (both (named d.name) (all d.selectors))

abbrev pub expression_marks :
    Expr-F Marks Marks Marks Marks Marks Marks Marks Marks Marks Marks Marks → Marks
expression_marks e = spanned e.span (both e.left (maybe e.relation))

abbrev pub factor_marks :
    Factor-F Marks Marks Marks Marks Marks Marks Marks Marks Marks Marks Marks → Marks
factor_marks f = spanned f.span f.form

abbrev pub next_factor_marks :
    NextFactor-F Marks Marks Marks Marks Marks Marks Marks Marks Marks Marks Marks → Marks
next_factor_marks n = n.factor

abbrev pub next_term_marks :
    NextTerm-F Marks Marks Marks Marks Marks Marks Marks Marks Marks Marks Marks → Marks
next_term_marks n = n.term

abbrev pub relation_marks :
    Relation-F Marks Marks Marks Marks Marks Marks Marks Marks Marks Marks Marks → Marks
relation_marks r = r.right

abbrev pub selector_marks :
    Selector-F Marks Marks Marks Marks Marks Marks Marks Marks Marks Marks Marks → Marks
selector_marks s = spanned s.span s.form

abbrev pub simple_expression_marks :
    SimpleExpr-F Marks Marks Marks Marks Marks Marks Marks Marks Marks Marks Marks → Marks
simple_expression_marks e = spanned e.span (both e.first (all e.rest))

abbrev pub term_marks :
    Term-F Marks Marks Marks Marks Marks Marks Marks Marks Marks Marks Marks → Marks
term_marks t = spanned t.span (both t.first (all t.rest))

abbrev pub in_factor_form : FactorForm → Marks
in_factor_form =
    fold-FactorForm Marks Marks Marks Marks Marks Marks Marks Marks Marks Marks Marks
    factor_form_marks selector_form_marks designator_marks expression_marks factor_marks
    next_factor_marks next_term_marks relation_marks selector_marks simple_expression_marks
    term_marks

abbrev pub in_selector_form : SelectorForm → Marks
in_selector_form =
    fold-SelectorForm Marks Marks Marks Marks Marks Marks Marks Marks Marks Marks Marks
    factor_form_marks selector_form_marks designator_marks expression_marks factor_marks
    next_factor_marks next_term_marks relation_marks selector_marks simple_expression_marks
    term_marks

abbrev pub in_designator : Designator → Marks
in_designator =
    fold-Designator Marks Marks Marks Marks Marks Marks Marks Marks Marks Marks Marks
    factor_form_marks selector_form_marks designator_marks expression_marks factor_marks
    next_factor_marks next_term_marks relation_marks selector_marks simple_expression_marks
    term_marks

abbrev pub in_expression : Expr → Marks
in_expression =
    fold-Expr Marks Marks Marks Marks Marks Marks Marks Marks Marks Marks Marks factor_form_marks
    selector_form_marks designator_marks expression_marks factor_marks next_factor_marks
    next_term_marks relation_marks selector_marks simple_expression_marks term_marks

abbrev pub in_factor : Factor → Marks
in_factor =
    fold-Factor Marks Marks Marks Marks Marks Marks Marks Marks Marks Marks Marks factor_form_marks
    selector_form_marks designator_marks expression_marks factor_marks next_factor_marks
    next_term_marks relation_marks selector_marks simple_expression_marks term_marks

abbrev pub in_next_factor : NextFactor → Marks
in_next_factor =
    fold-NextFactor Marks Marks Marks Marks Marks Marks Marks Marks Marks Marks Marks
    factor_form_marks selector_form_marks designator_marks expression_marks factor_marks
    next_factor_marks next_term_marks relation_marks selector_marks simple_expression_marks
    term_marks

abbrev pub in_next_term : NextTerm → Marks
in_next_term =
    fold-NextTerm Marks Marks Marks Marks Marks Marks Marks Marks Marks Marks Marks
    factor_form_marks selector_form_marks designator_marks expression_marks factor_marks
    next_factor_marks next_term_marks relation_marks selector_marks simple_expression_marks
    term_marks

abbrev pub in_relation : Relation → Marks
in_relation =
    fold-Relation Marks Marks Marks Marks Marks Marks Marks Marks Marks Marks Marks
    factor_form_marks selector_form_marks designator_marks expression_marks factor_marks
    next_factor_marks next_term_marks relation_marks selector_marks simple_expression_marks
    term_marks

abbrev pub in_selector : Selector → Marks
in_selector =
    fold-Selector Marks Marks Marks Marks Marks Marks Marks Marks Marks Marks Marks
    factor_form_marks selector_form_marks designator_marks expression_marks factor_marks
    next_factor_marks next_term_marks relation_marks selector_marks simple_expression_marks
    term_marks

abbrev pub in_simple_expression : SimpleExpr → Marks
in_simple_expression =
    fold-SimpleExpr Marks Marks Marks Marks Marks Marks Marks Marks Marks Marks Marks
    factor_form_marks selector_form_marks designator_marks expression_marks factor_marks
    next_factor_marks next_term_marks relation_marks selector_marks simple_expression_marks
    term_marks

abbrev pub in_term : Term → Marks
in_term =
    fold-Term Marks Marks Marks Marks Marks Marks Marks Marks Marks Marks Marks factor_form_marks
    selector_form_marks designator_marks expression_marks factor_marks next_factor_marks
    next_term_marks relation_marks selector_marks simple_expression_marks term_marks

-- ---- types

abbrev pub type_form_marks : TypeForm-F Marks Marks Marks → Marks
type_form_marks (TypeForm-F.Name k) = named k
type_form_marks (TypeForm-F.Array e t) = both (in_expression e) t
type_form_marks (TypeForm-F.Record fs) = all fs

abbrev pub name_list_marks : NameList-F Marks Marks Marks → Marks
name_list_marks l = both (all (map named l.names)) l.shape

abbrev pub type_expression_marks : TypeExpr-F Marks Marks Marks → Marks
type_expression_marks t = spanned t.span t.form

abbrev pub in_type_form : TypeForm → Marks
in_type_form =
    fold-TypeForm Marks Marks Marks type_form_marks name_list_marks type_expression_marks

abbrev pub in_name_list : NameList → Marks
in_name_list =
    fold-NameList Marks Marks Marks type_form_marks name_list_marks type_expression_marks

abbrev pub in_type_expression : TypeExpr → Marks
in_type_expression =
    fold-TypeExpr Marks Marks Marks type_form_marks name_list_marks type_expression_marks

-- ---- statements

abbrev pub statement_form_marks : StmtForm-F Marks Marks Marks → Marks
statement_form_marks (StmtForm-F.Assign d e) = both (in_designator d) (in_expression e)
statement_form_marks (StmtForm-F.Call k es) = both (named k) (all (map in_expression es))
statement_form_marks (StmtForm-F.If arms others) = both (all arms) (all others)
statement_form_marks (StmtForm-F.While e ss) = both (in_expression e) (all ss)
statement_form_marks (StmtForm-F.Repeat ss e) = both (all ss) (in_expression e)

abbrev pub arm_marks : Arm-F Marks Marks Marks → Marks
arm_marks a = both (in_expression a.test) (all a.body)

abbrev pub statement_marks : Stmt-F Marks Marks Marks → Marks
statement_marks s = spanned s.span s.form

abbrev pub in_statement_form : StmtForm → Marks
in_statement_form =
    fold-StmtForm Marks Marks Marks statement_form_marks arm_marks statement_marks

abbrev pub in_arm : Arm → Marks
in_arm =
    fold-Arm Marks Marks Marks statement_form_marks arm_marks statement_marks

abbrev pub in_statement : Stmt → Marks
in_statement =
    fold-Stmt Marks Marks Marks statement_form_marks arm_marks statement_marks

-- ---- declarations

abbrev pub in_constant : ConstDecl → Marks
in_constant c = both (named c.name) (in_expression c.value)

abbrev pub in_type : TypeDecl → Marks
in_type t = both (named t.name) (in_type_expression t.shape)

abbrev pub in_section : Section → Marks
in_section s = both (all (map named s.names)) (in_type_expression s.shape)

abbrev pub declarations_marks : Decls-F Marks Marks → Marks
declarations_marks d = both (all (map in_constant d.consts)) (both (all (map in_type d.types))
    (both (all (map in_name_list d.vars)) (all d.procs)))

abbrev pub procedure_marks : Proc-F Marks Marks → Marks
procedure_marks p = spanned p.span (both (named p.name) (both (all (map in_section p.params))
    (both p.decls (both (all (map in_statement p.body)) (named p.close)))))

abbrev pub in_declarations : Decls → Marks
in_declarations =
    fold-Decls Marks Marks declarations_marks procedure_marks

abbrev pub in_procedure : Proc → Marks
in_procedure =
    fold-Proc Marks Marks declarations_marks procedure_marks

abbrev pub in_module : Module → Marks
in_module m = both (named m.name) (both (in_declarations m.decls)
    (both (all (map in_statement m.body)) (named m.close)))

-- ---- the law

-- A phrase's tokens are in order and lie in the phrase around it; a name is the number of an
-- identifier in it.
abbrev pub IsMark : List Kind → Mark → Type 0
IsMark ks (phrase own around) =
    (own.first ≤ own.last) × (around.first ≤ own.first) × (own.last ≤ around.last)
IsMark ks (name k around) =
    (around.first ≤ k) × (k ≤ around.last) × (slice_get ks k ≡ Some Ident)

-- The module spans all tokens, and each phrase and name in it stands where it should.
pub record IsNumbered (ks : List Kind) (t : Module) : Type 0 where
  pub first : t.span.first ≡ 0
  pub last : t.span.last + 1 ≡ length ks
  pub marks : Each (IsMark ks) (in_module t t.span)
