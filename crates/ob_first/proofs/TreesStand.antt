-- Every phrase of a tree that tokens derive tells the first of what is broken in it, within its
-- tokens.
use Rattle.std.proofs.Common.{◌<◌, ◌≡◌, ℕ, ◌+◌, ◌≤◌, List, [], ◌∷◌, ◌++◌, Option, Some, None, refl}
use Rattle.std.proofs.Common.{sym, subst, arith}
use Rattle.std.specs.Prelude.{option_to_list}
use Rattle.ob_syntax.specs.declared.tree.Designator.{roll-Designator}
use Rattle.ob_syntax.specs.declared.tree.Stmt.{roll-Stmt}
use Rattle.ob_syntax.specs.declared.tree.StmtForm.TheVariants as form
use Rattle.ob_syntax.specs.Grammar.{Nonterminal, Selectors, Selector, Factor, Factors, Term, Terms}
use Rattle.ob_syntax.specs.Grammar.{Sign, SimpleExpression, Comparison, Expression, ArgumentList}
use Rattle.ob_syntax.specs.Grammar.{Arguments, ActualParameters, Arm, Elsifs, Arms, Else, Action}
use Rattle.ob_syntax.specs.Grammar.{Statement, Statements, StatementSequence, Idents, IdentList}
use Rattle.ob_syntax.specs.Grammar.{NameList, FieldList, FieldLists, FieldSequence, TypeExpression}
use Rattle.ob_syntax.specs.Grammar.{ByVar, Section, Sections, SectionList, FormalParameters}
use Rattle.ob_syntax.specs.Grammar.{Procedure, Procedures, Constant, ConstantList, Constants}
use Rattle.ob_syntax.specs.Grammar.{TypeDeclaration, TypeList, Types, VariableList, Variables}
use Rattle.ob_syntax.specs.Grammar.{Declarations, Body, Module, Symbol, token, phrase, Rule}
use Rattle.ob_syntax.specs.Grammar.{no_selectors, next_selector, field, index, name, number}
use Rattle.ob_syntax.specs.Grammar.{parenthesis, negation, no_factors, next_factor, term, no_terms}
use Rattle.ob_syntax.specs.Grammar.{next_term, no_sign, plus_sign, minus_sign, simple_expression}
use Rattle.ob_syntax.specs.Grammar.{no_comparison, comparison, expression, no_arguments, arguments}
use Rattle.ob_syntax.specs.Grammar.{last_argument, next_argument, no_parameters, parameters, arm}
use Rattle.ob_syntax.specs.Grammar.{no_elsif, next_elsif, arms, no_else, otherwise, assignment}
use Rattle.ob_syntax.specs.Grammar.{call, if_statement, while_statement, repeat_statement}
use Rattle.ob_syntax.specs.Grammar.{empty_statement, statement, last_statement, next_statement}
use Rattle.ob_syntax.specs.Grammar.{statement_sequence, last_ident, next_ident, ident_list}
use Rattle.ob_syntax.specs.Grammar.{name_list, empty_field_list, field_list, last_field_list}
use Rattle.ob_syntax.specs.Grammar.{next_field_list, field_sequence, type_name, array, record_type}
use Rattle.ob_syntax.specs.Grammar.{by_value, by_var, section, last_section, next_section}
use Rattle.ob_syntax.specs.Grammar.{no_sections, sections, no_formals, formals, procedure}
use Rattle.ob_syntax.specs.Grammar.{no_procedures, next_procedure, constant, last_constant}
use Rattle.ob_syntax.specs.Grammar.{next_constant, no_constants, constants, type_declaration}
use Rattle.ob_syntax.specs.Grammar.{last_type, next_type, no_types, types, last_variables}
use Rattle.ob_syntax.specs.Grammar.{next_variables, no_variables, variables, declarations, no_body}
use Rattle.ob_syntax.specs.Grammar.{body, a_module, right}
use Rattle.ob_syntax.specs.Declarations.{beginning, drafted, nodes_of, with_nodes}
use Rattle.ob_syntax.specs.Declarations.{declarations as read_declarations, reading}
use Rattle.ob_syntax.specs.Expressions.{whole_factor, whole_term, simple_expression as read_simple}
use Rattle.ob_syntax.specs.Forms.{Form, Parts, made, done, taken, part, end, ends}
use Rattle.ob_syntax.specs.Tree.{Tree, Values, tree, values, tree_by, span_to}
use Rattle.ob_syntax.proofs.FormsAdvance.{stays}
use Rattle.ob_first.specs.InExpressions.{InExpression, InFactor, InTerm, InSimple}
use Rattle.ob_first.specs.InDeclarations.{behind_declarations, InDeclarations, InProcedure}
use Rattle.ob_first.specs.Breaks.{InModule}
use Rattle.ob_first.specs.InStatements.{InStatement}
use Rattle.ob_first.specs.InTypes.{InType}
use Rattle.ob_syntax.specs.Names.{Fault, Place}
use Rattle.ob_first.proofs.Leads.{told, Leads, InOrder, wide}
use Rattle.ob_syntax.specs.declared.token.Token.{Token}
use Rattle.ob_first.proofs.Chains.{Stands}
use Rattle.ob_first.proofs.Selections.{SelectorAt}
use Rattle.ob_first.proofs.ExpressionRules.{ComparisonAt, NextTermAt, NextFactorAt}
use Rattle.ob_first.proofs.ExpressionRules.{expression_stands, relation_stands, next_term_stands}
use Rattle.ob_first.proofs.ExpressionRules.{next_factor_stands, simple_stands, term_stands}
use Rattle.ob_first.proofs.ExpressionRules.{number_stands, parenthesis_stands, negation_stands}
use Rattle.ob_first.proofs.ExpressionRules.{name_stands, field_stands, index_stands}
use Rattle.ob_first.proofs.Calls.{ExpressionAt}
use Rattle.ob_first.proofs.StatementRules.{StatementAt, ArmAt, assignment_stands, call_stands}
use Rattle.ob_first.proofs.StatementRules.{if_stands, while_stands, repeat_stands, arm_stands}
use Rattle.ob_first.proofs.TypeRules.{NameAt, TypeAt, NameListAt, name_list_stands}
use Rattle.ob_first.proofs.TypeRules.{type_name_stands, array_stands, record_stands}
use Rattle.ob_first.proofs.DeclarationRules.{ConstantAt, TypeDeclarationAt, SectionAt}
use Rattle.ob_first.proofs.ProcedureRules.{ProcedureAt, DeclarationsAt, body_leads}
use Rattle.ob_first.proofs.ProcedureRules.{declarations_stand, procedure_stands}

-- ---- lists in order

earlier : {A : Type 0} (P : A → ℕ → ℕ → Type 0) (xs : List A) (h i j : ℕ) → h ≤ i →
    InOrder P i xs j → InOrder P h xs j
earlier P [] h i j low order = omega arith
earlier P (x ∷ xs) h i j low (k, l, le, one, order) = (k, l, omega arith, one, order)

later : {A : Type 0} (P : A → ℕ → ℕ → Type 0) (xs : List A) (i j k : ℕ) → j ≤ k → InOrder P i xs j →
    InOrder P i xs k
later P [] i j k high order = omega arith
later P (x ∷ xs) i j k high (a, b, le, one, order) = (a, b, le, one, later P xs b j k high order)

abbrev OptionAt : {A : Type 0} → (A → ℕ → ℕ → Type 0) → Option A → ℕ → ℕ → Type 0
OptionAt P None i j = i ≤ j
OptionAt P (Some x) i j = P x i j

same_place : (i : ℕ) → i ≤ i
same_place i = omega arith

next_place : (i : ℕ) → i ≤ i + 1
next_place i = omega arith

some_first : {A : Type 0} (P : A → ℕ → ℕ → Type 0) (x : Option A) (xs : List A) (i k j : ℕ) →
    OptionAt P x i k → InOrder P k xs j → InOrder P i (option_to_list x ++ xs) j
some_first P None xs i k j le order = earlier P xs i k j le order
some_first P (Some x) xs i k j one order = (i, k, same_place i, one, order)

-- ---- what holds of a phrase at tokens i up to j

abbrev At : (n : Nonterminal) → Tree n → ℕ → ℕ → Type 0
At Selectors t i j = InOrder SelectorAt i t j
At Selector t i j = SelectorAt t i j
At Factor t i j = Stands i j (whole_factor t) (λ p f. InFactor p t f)
At Factors t i j = InOrder NextFactorAt i t j
At Term t i j = Stands i j (whole_term t) (λ p f. InTerm p t f)
At Terms t i j = InOrder NextTermAt i t j
At Sign t i j = i ≤ j
At SimpleExpression t i j = Stands i j (read_simple t) (λ p f. InSimple p t f)
At Comparison t i j = ComparisonAt t i j
At Expression t i j = ExpressionAt t i j
At ArgumentList t i j = InOrder ExpressionAt i t j
At Arguments t i j = InOrder ExpressionAt i t j
At ActualParameters t i j = InOrder ExpressionAt i t j
At Arm t i j = ArmAt t i j
At Elsifs t i j = InOrder ArmAt i t j
At Arms t i j = InOrder ArmAt i t j
At Else t i j = InOrder StatementAt i t j
At Action t i j = StatementAt t i j
At Statement t i j = OptionAt StatementAt t i j
At Statements t i j = InOrder StatementAt i t j
At StatementSequence t i j = InOrder StatementAt i t j
At Idents t i j = InOrder NameAt i t j
At IdentList t i j = InOrder NameAt i t j
At NameList t i j = NameListAt t i j
At FieldList t i j = OptionAt NameListAt t i j
At FieldLists t i j = InOrder NameListAt i t j
At FieldSequence t i j = InOrder NameListAt i t j
At TypeExpression t i j = TypeAt t i j
At ByVar t i j = i ≤ j
At Section t i j = SectionAt t i j
At Sections t i j = InOrder SectionAt i t j
At SectionList t i j = InOrder SectionAt i t j
At FormalParameters t i j = InOrder SectionAt i t j
At Procedure t i j = ProcedureAt t i j
At Procedures t i j = InOrder ProcedureAt i t j
At Constant t i j = ConstantAt t i j
At ConstantList t i j = InOrder ConstantAt i t j
At Constants t i j = InOrder ConstantAt i t j
At TypeDeclaration t i j = TypeDeclarationAt t i j
At TypeList t i j = InOrder TypeDeclarationAt i t j
At Types t i j = InOrder TypeDeclarationAt i t j
At VariableList t i j = InOrder NameListAt i t j
At Variables t i j = InOrder NameListAt i t j
At Declarations t i j = DeclarationsAt t i j
At Body t i j = InOrder StatementAt i t j
At Module t i j = (bytes : List ℕ) (tokens : List Token) → Leads i j (told (reading bytes tokens t))
    (InModule bytes tokens t)

-- ---- what holds of the right side of a production, from token i on

abbrev Holds : (ss : List Symbol) → ℕ → Values ss → Type 0
Holds [] i v = Unit {0}
Holds (token k ∷ ss) i v = (v.0 ≡ i) × Holds ss (i + 1) v.1
Holds (phrase d m ∷ ss) i v = (l : ℕ) × (i ≤ l) × At m v.0 i l × Holds ss l v.1

-- the token behind it
abbrev end_of : (ss : List Symbol) (i : ℕ) (v : Values ss) → Holds ss i v → ℕ
end_of [] i v h = i
end_of (token k ∷ ss) i v h = end_of ss (i + 1) v.1 h.1
end_of (phrase d m ∷ ss) i v h = end_of ss h.0 v.1 h.3

rule_stands : (n : Nonterminal) (r : Rule n) (i : ℕ) (v : Values (right r))
    (h : Holds (right r) i v) → At n (tree_by r i (end_of (right r) i v h) v) i
    (end_of (right r) i v h)
rule_stands _ no_selectors i v h = same_place i
rule_stands _ next_selector i v h = (i, h.0, same_place i, h.2, h.3.2)
rule_stands _ field i v h = field_stands (span_to i (i + 1 + 1)) i (i + 1 + 1) v.1.0
    (omega (arith, h.1.0)) (omega (arith, h.1.0))
rule_stands _ index i v h = index_stands (span_to i (h.1.0 + 1)) v.1.0 i (i + 1) h.1.0
    (h.1.0 + 1) h.1.2 (next_place i) (omega arith) (omega arith)
rule_stands _ name i v h =
    subst (λ (k : ℕ). Stands k h.1.0 (whole_factor (tree_by name i h.1.0 v))
    (λ p f. InFactor p (tree_by name i h.1.0 v) f)) h.0
    (name_stands (span_to i h.1.0) (span_to i h.1.0) v.0 v.1.0 h.1.0 (let le = h.1.1 in omega arith)
    (subst (λ (k : ℕ). InOrder SelectorAt (k + 1) v.1.0 h.1.0) (sym h.0) h.1.2))
rule_stands _ (number n) i v h = number_stands (span_to i (i + 1)) n i (i + 1) (omega arith)
    (omega arith)
rule_stands _ parenthesis i v h = parenthesis_stands (span_to i (h.1.0 + 1)) v.1.0 i (i + 1) h.1.0
    (h.1.0 + 1) (next_place i) (next_place h.1.0) (omega arith) h.1.2
rule_stands _ negation i v h = let some = h.1.2 in negation_stands (span_to i h.1.0) v.1.0 i
    (i + 1) h.1.0 (next_place i) (let less = some.some in omega arith) h.1.2
rule_stands _ term i v h = let one = h.2 in term_stands (span_to i h.3.0) v.0 v.1.0 i h.0 h.3.0
    (let some = one.some in let le = h.3.1 in omega arith) h.3.1 h.2 h.3.2
rule_stands _ no_factors i v h = same_place i
rule_stands _ (next_factor op) i v h =
    (i + 1, h.1.0, next_place i, next_factor_stands _ v.1.0 (i + 1) h.1.0 h.1.2, h.1.3.2)
rule_stands _ simple_expression i v h =
    let one = h.3.2 in
    simple_stands (span_to i h.3.3.0) v.0 v.1.0 v.1.1.0 i h.0 h.3.0 h.3.3.0
    (let some = one.some in let le = h.3.3.1 in omega arith) h.1 h.3.3.1 h.3.2 h.3.3.2
rule_stands _ no_sign i v h = same_place i
rule_stands _ plus_sign i v h = next_place i
rule_stands _ minus_sign i v h = next_place i
rule_stands _ no_terms i v h = same_place i
rule_stands _ (next_term op) i v h =
    (i + 1, h.1.0, next_place i, next_term_stands _ v.1.0 (i + 1) h.1.0 h.1.2, h.1.3.2)
rule_stands _ expression i v h =
    let one = h.2 in
    expression_stands (span_to i h.3.0) v.0 v.1.0 i h.0 h.3.0
    (let some = one.some in let le = h.3.1 in omega arith) h.2 h.3.2
rule_stands _ no_comparison i v h = refl
rule_stands _ (comparison op) i v h =
    (i + 1, next_place i, relation_stands _ v.1.0 (i + 1) h.1.0 h.1.2)
rule_stands _ parameters i v h = later ExpressionAt v.1.0 i h.1.0 (h.1.0 + 1) (next_place h.1.0)
    (earlier ExpressionAt v.1.0 i (i + 1) h.1.0 (next_place i) h.1.2)
rule_stands _ no_arguments i v h = same_place i
rule_stands _ arguments i v h = (i, h.0, same_place i, h.2, h.3.2)
rule_stands _ last_argument i v h = same_place i
rule_stands _ next_argument i v h = (i + 1, h.1.0, next_place i, h.1.2, h.1.3.2)
rule_stands _ assignment i v h =
    let value = h.1.3.1.2 in
    subst (λ (k : ℕ). StatementAt (tree_by assignment i h.1.3.1.0 v) k h.1.3.1.0) h.0
    (subst (λ (k : ℕ). StatementAt
    (roll-Stmt (record {
      span = span_to i h.1.3.1.0;
      form =
          form.Assign (roll-Designator
          (record { span = span_to i k; name = v.0; selectors = v.1.0 }))
          v.1.1.1.0;
    })) v.0 h.1.3.1.0) (sym h.1.3.0)
    (assignment_stands (span_to i h.1.3.1.0) (span_to i h.1.0) v.0 v.1.0 v.1.1.1.0 h.1.0
    (h.1.0 + 1) h.1.3.1.0 (let some = value.some in omega arith) (next_place h.1.0)
    (subst (λ (k : ℕ). InOrder SelectorAt (k + 1) v.1.0 h.1.0) (sym h.0) h.1.2) value))
rule_stands _ call i v h =
    subst (λ (k : ℕ). StatementAt (tree_by call i h.1.0 v) k h.1.0) h.0
    (call_stands (span_to i h.1.0) v.0 v.1.0 h.1.0 (let le = h.1.1 in omega arith)
    (let le = h.1.1 in omega (arith, h.0))
    (subst (λ (k : ℕ). InOrder ExpressionAt (k + 1) v.1.0 h.1.0) (sym h.0) h.1.2))
rule_stands _ no_parameters i v h = same_place i
rule_stands _ if_statement i v h = if_stands (span_to i (h.1.3.0 + 1)) v.1.0 v.1.1.0 i (i + 1) h.1.0
    (h.1.3.0 + 1) h.1.3.0 (next_place i) (next_place h.1.3.0) h.1.2 h.1.3.2
rule_stands _ arms i v h = (i, h.0, same_place i, h.2, h.3.2)
rule_stands _ arm i v h = arm_stands v.0 v.1.1.0 i i h.0 (h.0 + 1) h.3.1.0 (same_place i)
    (next_place h.0) h.2 h.3.1.2
rule_stands _ no_elsif i v h = same_place i
rule_stands _ next_elsif i v h = (i + 1, h.1.0, next_place i, h.1.2, h.1.3.2)
rule_stands _ no_else i v h = same_place i
rule_stands _ otherwise i v h = earlier StatementAt v.1.0 i (i + 1) h.1.0 (next_place i) h.1.2
rule_stands _ while_statement i v h = while_stands (span_to i (h.1.3.1.0 + 1)) v.1.0 v.1.1.1.0 i
    (i + 1) h.1.0 (h.1.0 + 1) h.1.3.1.0 (h.1.3.1.0 + 1) (next_place i) (next_place h.1.0)
    (next_place h.1.3.1.0) h.1.2 h.1.3.1.2
rule_stands _ repeat_statement i v h = repeat_stands (span_to i h.1.3.1.0) v.1.0 v.1.1.1.0 i
    (i + 1) h.1.0 (h.1.0 + 1) h.1.3.1.0 (next_place i) (next_place h.1.0) h.1.2 h.1.3.1.2
rule_stands _ empty_statement i v h = same_place i
rule_stands _ statement i v h = h.2
rule_stands _ statement_sequence i v h = some_first StatementAt v.0 v.1.0 i h.0 h.3.0 h.2 h.3.2
rule_stands _ last_statement i v h = same_place i
rule_stands _ next_statement i v h = earlier StatementAt (option_to_list v.1.0 ++ v.1.1.0) i
    (i + 1) h.1.3.0 (next_place i)
    (some_first StatementAt v.1.0 v.1.1.0 (i + 1) h.1.0 h.1.3.0 h.1.2 h.1.3.2)
rule_stands _ ident_list i v h =
    (i, i + 1, same_place i, (omega (arith, h.0), omega (arith, h.0)), h.1.2)
rule_stands _ last_ident i v h = same_place i
rule_stands _ next_ident i v h =
    (i + 1, i + 1 + 1, next_place i, (omega (arith, h.1.0), omega (arith, h.1.0)), h.1.1.2)
rule_stands _ type_name i v h =
    subst (λ (k : ℕ). TypeAt (tree_by type_name i (i + 1) v) k (i + 1)) h.0
    (type_name_stands (span_to i (i + 1)) v.0 (i + 1) (omega (arith, h.0)) (omega arith))
rule_stands _ array i v h =
    let item = h.1.3.1.2 in
    array_stands (span_to i h.1.3.1.0) v.1.0 v.1.1.1.0 i (i + 1) h.1.0 (h.1.0 + 1) h.1.3.1.0
    (next_place i) (next_place h.1.0) (let some = item.some in omega arith) h.1.2 item
rule_stands _ record_type i v h = record_stands (span_to i (h.1.0 + 1)) v.1.0 i (i + 1) h.1.0
    (h.1.0 + 1) (next_place i) (omega arith) (omega arith) h.1.2
rule_stands _ field_sequence i v h = some_first NameListAt v.0 v.1.0 i h.0 h.3.0 h.2 h.3.2
rule_stands _ name_list i v h = name_list_stands v.0 v.1.1.0 i h.3.1.0
    (record { k = h.0; l = h.0 + 1; low = next_place h.0; in_order = h.2; type_at = h.3.1.2 })
rule_stands _ empty_field_list i v h = same_place i
rule_stands _ field_list i v h = h.2
rule_stands _ last_field_list i v h = same_place i
rule_stands _ next_field_list i v h = earlier NameListAt (option_to_list v.1.0 ++ v.1.1.0) i
    (i + 1) h.1.3.0 (next_place i)
    (some_first NameListAt v.1.0 v.1.1.0 (i + 1) h.1.0 h.1.3.0 h.1.2 h.1.3.2)
rule_stands _ section i v h =
    record {
      k = h.3.0;
      l = h.3.0 + 1;
      low = next_place h.3.0;
      in_order =
          earlier NameAt v.1.0 i h.0 h.3.0 h.1 h.3.2;
      type_at = h.3.3.1.2;
    }
rule_stands _ by_value i v h = same_place i
rule_stands _ by_var i v h = next_place i
rule_stands _ formals i v h = later SectionAt v.1.0 i h.1.0 (h.1.0 + 1) (next_place h.1.0)
    (earlier SectionAt v.1.0 i (i + 1) h.1.0 (next_place i) h.1.2)
rule_stands _ no_sections i v h = same_place i
rule_stands _ sections i v h = (i, h.0, same_place i, h.2, h.3.2)
rule_stands _ last_section i v h = same_place i
rule_stands _ next_section i v h = (i + 1, h.1.0, next_place i, h.1.2, h.1.3.2)
rule_stands _ procedure i v h =
    procedure_stands (span_to i (h.1.1.3.1.3.0 + 1 + 1)) v.1.0 v.1.1.0 v.1.1.1.1.0 v.1.1.1.1.1.0
    v.1.1.1.1.1.1.1.0 i (i + 1 + 1) (i + 1 + 1) h.1.1.0 (h.1.1.0 + 1) h.1.1.3.1.0 h.1.1.3.1.0
    h.1.1.3.1.3.0 (h.1.1.3.1.3.0 + 1 + 1)
    (omega (arith, h.1.0), omega (arith, h.1.0)) (same_place (i + 1 + 1)) h.1.1.2
    (next_place h.1.1.0) h.1.1.3.1.2 (same_place h.1.1.3.1.0) h.1.1.3.1.3.2
    (omega (arith, h.1.1.3.1.3.3.1.0)) (omega (arith, h.1.1.3.1.3.3.1.0))
rule_stands _ no_formals i v h = same_place i
rule_stands _ no_body i v h = same_place i
rule_stands _ body i v h = earlier StatementAt v.1.0 i (i + 1) h.1.0 (next_place i) h.1.2
rule_stands _ declarations i v h = declarations_stand v.0 v.1.0 v.1.1.0 v.1.1.1.0 i h.0 h.3.0
    h.3.3.0 h.3.3.3.0 h.2 h.3.2 h.3.3.2 h.3.3.3.2
rule_stands _ no_constants i v h = same_place i
rule_stands _ constants i v h = earlier ConstantAt v.1.0 i (i + 1) h.1.0 (next_place i) h.1.2
rule_stands _ last_constant i v h = same_place i
rule_stands _ next_constant i v h = (
  i,
  h.0,
  same_place i,
  h.2,
  earlier ConstantAt v.1.1.0 h.0 (h.0 + 1) h.3.1.0 (next_place h.0)
      h.3.1.2,
)
rule_stands _ constant i v h =
    let value = h.1.1.2 in
    record {
      k = i + 1;
      l = i + 1 + 1;
      name_at = (omega (arith, h.0), omega (arith, h.0));
      low =
          next_place (i + 1);
      some = h.1.1.1;
      value_at = value;
    }
rule_stands _ no_types i v h = same_place i
rule_stands _ types i v h = earlier TypeDeclarationAt v.1.0 i (i + 1) h.1.0 (next_place i) h.1.2
rule_stands _ last_type i v h = same_place i
rule_stands _ next_type i v h = (
  i,
  h.0,
  same_place i,
  h.2,
  earlier TypeDeclarationAt v.1.1.0 h.0 (h.0 + 1) h.3.1.0
      (next_place h.0) h.3.1.2,
)
rule_stands _ type_declaration i v h =
    let value = h.1.1.2 in
    record {
      k = i + 1;
      l = i + 1 + 1;
      name_at = (omega (arith, h.0), omega (arith, h.0));
      low =
          next_place (i + 1);
      some = h.1.1.1;
      value_at = value;
    }
rule_stands _ no_variables i v h = same_place i
rule_stands _ variables i v h = earlier NameListAt v.1.0 i (i + 1) h.1.0 (next_place i) h.1.2
rule_stands _ last_variables i v h = same_place i
rule_stands _ next_variables i v h = (
  i,
  h.0,
  same_place i,
  h.2,
  earlier NameListAt v.1.1.0 h.0 (h.0 + 1) h.3.1.0 (next_place h.0)
      h.3.1.2,
)
rule_stands _ no_procedures i v h = same_place i
rule_stands _ next_procedure i v h = (
  i,
  h.0,
  same_place i,
  h.2,
  earlier ProcedureAt v.1.1.0 h.0 (h.0 + 1) h.3.1.0 (next_place h.0)
      h.3.1.2,
)
rule_stands _ a_module i v h = λ bytes tokens.
    let p = beginning bytes tokens in
    let decls = h.1.1.1.2 in
    body_leads i h.1.1.1.0 h.1.1.1.0 h.1.1.1.3.0 (h.1.1.1.3.0 + 1 + 1 + 1) 1 v.1.0 v.1.1.1.1.1.1.0
    (read_declarations v.1.1.1.0 p) (λ d. d.place) (behind_declarations v.1.1.1.0 p) v.1.1.1.1.0
    (InDeclarations p v.1.1.1.0)
    (wide (omega arith) (same_place h.1.1.1.0) (decls.leads p)) (λ d is. decls.behind p d is)
    (let le = h.1.1.1.1 in omega arith) (same_place h.1.1.1.0) h.1.1.1.3.2
    (omega (arith, h.1.1.1.3.3.1.0)) (omega (arith, h.1.1.1.3.3.1.0))
    (λ d body end. record {
      place = with_nodes end (nodes_of tokens v.1.1.1.1.0);
      vars = d.vars;
      procs = drafted 0 v.1.0 [] [] (nodes_of tokens v.1.1.1.1.0) body ∷ d.procs;
    })

-- ---- all forms

mutual
  form_stands : (n : Nonterminal) (f : Form n) (i : ℕ) → At n (tree n i f) i (end n i f)
  form_stands n (made _ r ps) i =
      let h = parts_stand (right r) ps i in
      subst (λ (j : ℕ). At n (tree_by r i j (values (right r) i ps)) i j) h.1
      (rule_stands n r i (values (right r) i ps) h.0)

  parts_stand : (ss : List Symbol) (ps : Parts ss) (i : ℕ) → (h : Holds ss i (values ss i ps)) ×
      (end_of ss i (values ss i ps) h ≡ ends ss i ps)
  parts_stand _ done i = (tt, refl)
  parts_stand _ (taken k ss ps) i = let h = parts_stand ss ps (i + 1) in ((refl, h.0), h.1)
  parts_stand _ (part d m ss f ps) i = let h = parts_stand ss ps (end m i f) in
      ((end m i f, stays m i f, form_stands m f i, h.0), h.1)

-- what is told of a module is the first of what is broken in it
pub module_stands : (f : Form Module) (bytes : List ℕ) (tokens : List Token) →
    Leads 0 (end Module 0 f) (told (reading bytes tokens (tree Module 0 f)))
    (λ g. InModule bytes tokens (tree Module 0 f) g)
module_stands f bytes tokens = form_stands Module f 0 bytes tokens

-- what breaks a rule in a phrase lies among its tokens
pub in_expression : (f : Form Expression) (i : ℕ) (p : Place) (g : Fault) →
    InExpression p (tree Expression i f) g → (i ≤ g.1) × (g.1 < end Expression i f)
in_expression f i p g b = let at = form_stands Expression f i in (at.leads p).lies g b

pub in_statement : (f : Form Action) (i : ℕ) (p : Place) (g : Fault) →
    InStatement p (tree Action i f) g → (i ≤ g.1) × (g.1 < end Action i f)
in_statement f i p g b = let at = form_stands Action f i in (at.leads p).lies g b

pub in_type : (f : Form TypeExpression) (i : ℕ) (p : Place) (g : Fault) →
    InType p (tree TypeExpression i f) g → (i ≤ g.1) × (g.1 < end TypeExpression i f)
in_type f i p g b = let at = form_stands TypeExpression f i in (at.leads p).lies g b

pub in_procedure : (f : Form Procedure) (i : ℕ) (p : Place) (g : Fault) →
    InProcedure p (tree Procedure i f) g → (i ≤ g.1) × (g.1 < end Procedure i f)
in_procedure f i p g b = let at = form_stands Procedure f i in (at.leads p).lies g b
