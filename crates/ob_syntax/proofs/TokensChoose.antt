-- What the next token chooses.
use Rattle.std.proofs.Common.{◌≡◌, ℤ, Option, Some, None, refl}
use Rattle.ob_syntax.specs.declared.token.Kind.{Kind}
use Rattle.ob_syntax.specs.declared.token.Kind.TheVariants.{Ident, Number, KwBegin, KwConst, KwDiv}
use Rattle.ob_syntax.specs.declared.token.Kind.TheVariants.{KwElse, KwElsif, KwIf, KwMod, KwOr}
use Rattle.ob_syntax.specs.declared.token.Kind.TheVariants.{KwProcedure, KwRepeat, KwType, KwVar}
use Rattle.ob_syntax.specs.declared.token.Kind.TheVariants.{KwWhile, Period, Comma, Semicolon}
use Rattle.ob_syntax.specs.declared.token.Kind.TheVariants.{Becomes, LeftParen, LeftBracket, Tilde}
use Rattle.ob_syntax.specs.declared.token.Kind.TheVariants.{Times, Amp, Plus, Minus, Equal, Unequal}
use Rattle.ob_syntax.specs.declared.token.Kind.TheVariants.{Less, LessEqual, Greater, GreaterEqual}
use Rattle.ob_syntax.specs.Grammar.{MulOp, times, quotient, remainder, both, AddOp, plus, minus}
use Rattle.ob_syntax.specs.Grammar.{either, RelationOp, equal, unequal, less, less_equal, greater}
use Rattle.ob_syntax.specs.Grammar.{greater_equal, mul_kind, add_kind, relation_kind}
use Rattle.ob_syntax.specs.Grammar.{ActualParameters, ArgumentList, Arguments, Body, ByVar}
use Rattle.ob_syntax.specs.Grammar.{Comparison, ConstantList, Constants, Else, Elsifs, Factors}
use Rattle.ob_syntax.specs.Grammar.{FieldList, FieldLists, FormalParameters, Idents, Procedures}
use Rattle.ob_syntax.specs.Grammar.{SectionList, Sections, Selectors, Sign, Statement, Statements}
use Rattle.ob_syntax.specs.Grammar.{Terms, TypeList, Types, VariableList, Variables, no_parameters}
use Rattle.ob_syntax.specs.Grammar.{no_formals, last_argument, last_ident, no_elsif, no_else}
use Rattle.ob_syntax.specs.Grammar.{last_statement, last_field_list, last_section, empty_field_list}
use Rattle.ob_syntax.specs.Grammar.{last_constant, no_constants, last_type, no_types}
use Rattle.ob_syntax.specs.Grammar.{last_variables, no_variables, by_value, no_procedures, no_body}
use Rattle.ob_syntax.specs.Grammar.{no_selectors, no_factors, next_factor, no_terms, next_term}
use Rattle.ob_syntax.specs.Grammar.{no_comparison, comparison, no_sign, no_arguments}
use Rattle.ob_syntax.specs.Grammar.{empty_statement, no_sections, call}
use Rattle.ob_syntax.specs.ChosenRule.{by_first, behind_name}

-- ---- operators

pub mul_first : (op : MulOp) → by_first Factors (Some (mul_kind op)) ≡ Some (next_factor op)
mul_first times = refl
mul_first quotient = refl
mul_first remainder = refl
mul_first both = refl

pub no_mul_first : (o : Option Kind) → ((op : MulOp) → o ≡ Some (mul_kind op) → ⊥) →
    by_first Factors o ≡ Some no_factors
no_mul_first None h = refl
no_mul_first (Some Times) h = absurd (h times refl)
no_mul_first (Some KwDiv) h = absurd (h quotient refl)
no_mul_first (Some KwMod) h = absurd (h remainder refl)
no_mul_first (Some Amp) h = absurd (h both refl)
no_mul_first _ h = refl

pub add_first : (op : AddOp) → by_first Terms (Some (add_kind op)) ≡ Some (next_term op)
add_first plus = refl
add_first minus = refl
add_first either = refl

pub no_add_first : (o : Option Kind) → ((op : AddOp) → o ≡ Some (add_kind op) → ⊥) →
    by_first Terms o ≡ Some no_terms
no_add_first None h = refl
no_add_first (Some Plus) h = absurd (h plus refl)
no_add_first (Some Minus) h = absurd (h minus refl)
no_add_first (Some KwOr) h = absurd (h either refl)
no_add_first _ h = refl

pub relation_first : (op : RelationOp) → by_first Comparison (Some (relation_kind op)) ≡
    Some (comparison op)
relation_first equal = refl
relation_first unequal = refl
relation_first less = refl
relation_first less_equal = refl
relation_first greater = refl
relation_first greater_equal = refl

pub no_relation_first : (o : Option Kind) → ((op : RelationOp) → o ≡ Some (relation_kind op) → ⊥) →
    by_first Comparison o ≡ Some no_comparison
no_relation_first None h = refl
no_relation_first (Some Equal) h = absurd (h equal refl)
no_relation_first (Some Unequal) h = absurd (h unequal refl)
no_relation_first (Some Less) h = absurd (h less refl)
no_relation_first (Some LessEqual) h = absurd (h less_equal refl)
no_relation_first (Some Greater) h = absurd (h greater refl)
no_relation_first (Some GreaterEqual) h = absurd (h greater_equal refl)
no_relation_first _ h = refl

-- ---- options and repetitions that several tokens go on with

pub no_selector : (o : Option Kind) → (o ≡ Some Period → ⊥) → (o ≡ Some LeftBracket → ⊥) →
    by_first Selectors o ≡ Some no_selectors
no_selector None p l = refl
no_selector (Some Period) p l = absurd (p refl)
no_selector (Some LeftBracket) p l = absurd (l refl)
no_selector _ p l = refl

pub no_sign_at : (o : Option Kind) → (o ≡ Some Plus → ⊥) → (o ≡ Some Minus → ⊥) → by_first Sign o ≡
    Some no_sign
no_sign_at None p m = refl
no_sign_at (Some Plus) p m = absurd (p refl)
no_sign_at (Some Minus) p m = absurd (m refl)
no_sign_at _ p m = refl

pub no_argument_at : (o : Option Kind) → (o ≡ Some Plus → ⊥) → (o ≡ Some Minus → ⊥) →
    (o ≡ Some Ident → ⊥) → ((n : ℤ) → o ≡ Some (Number n) → ⊥) → (o ≡ Some LeftParen → ⊥) →
    (o ≡ Some Tilde → ⊥) → by_first ArgumentList o ≡ Some no_arguments
no_argument_at None p m i n l t = refl
no_argument_at (Some Plus) p m i n l t = absurd (p refl)
no_argument_at (Some Minus) p m i n l t = absurd (m refl)
no_argument_at (Some Ident) p m i n l t = absurd (i refl)
no_argument_at (Some (Number x)) p m i n l t = absurd (n x refl)
no_argument_at (Some LeftParen) p m i n l t = absurd (l refl)
no_argument_at (Some Tilde) p m i n l t = absurd (t refl)
no_argument_at _ p m i n l t = refl

pub no_statement_at : (o : Option Kind) → (o ≡ Some Ident → ⊥) → (o ≡ Some KwIf → ⊥) →
    (o ≡ Some KwWhile → ⊥) → (o ≡ Some KwRepeat → ⊥) → by_first Statement o ≡ Some empty_statement
no_statement_at None i f w r = refl
no_statement_at (Some Ident) i f w r = absurd (i refl)
no_statement_at (Some KwIf) i f w r = absurd (f refl)
no_statement_at (Some KwWhile) i f w r = absurd (w refl)
no_statement_at (Some KwRepeat) i f w r = absurd (r refl)
no_statement_at _ i f w r = refl

pub no_section_at : (o : Option Kind) → (o ≡ Some KwVar → ⊥) → (o ≡ Some Ident → ⊥) →
    by_first SectionList o ≡ Some no_sections
no_section_at None v i = refl
no_section_at (Some KwVar) v i = absurd (v refl)
no_section_at (Some Ident) v i = absurd (i refl)
no_section_at _ v i = refl

pub no_assignment : (o : Option Kind) → (o ≡ Some Period → ⊥) → (o ≡ Some LeftBracket → ⊥) →
    (o ≡ Some Becomes → ⊥) → behind_name o ≡ Some call
no_assignment None p l b = refl
no_assignment (Some Period) p l b = absurd (p refl)
no_assignment (Some LeftBracket) p l b = absurd (l refl)
no_assignment (Some Becomes) p l b = absurd (b refl)
no_assignment _ p l b = refl

-- ---- options and repetitions that one token goes on with

pub not_left_paren : (o : Option Kind) → (o ≡ Some LeftParen → ⊥) → by_first ActualParameters o ≡
    Some no_parameters
not_left_paren None h = refl
not_left_paren (Some LeftParen) h = absurd (h refl)
not_left_paren _ h = refl

pub no_formals_first : (o : Option Kind) → (o ≡ Some LeftParen → ⊥) → by_first FormalParameters o ≡
    Some no_formals
no_formals_first None h = refl
no_formals_first (Some LeftParen) h = absurd (h refl)
no_formals_first _ h = refl

pub not_comma : (o : Option Kind) → (o ≡ Some Comma → ⊥) → by_first Arguments o ≡ Some last_argument
not_comma None h = refl
not_comma (Some Comma) h = absurd (h refl)
not_comma _ h = refl

pub no_ident_first : (o : Option Kind) → (o ≡ Some Comma → ⊥) → by_first Idents o ≡ Some last_ident
no_ident_first None h = refl
no_ident_first (Some Comma) h = absurd (h refl)
no_ident_first _ h = refl

pub not_elsif : (o : Option Kind) → (o ≡ Some KwElsif → ⊥) → by_first Elsifs o ≡ Some no_elsif
not_elsif None h = refl
not_elsif (Some KwElsif) h = absurd (h refl)
not_elsif _ h = refl

pub not_else : (o : Option Kind) → (o ≡ Some KwElse → ⊥) → by_first Else o ≡ Some no_else
not_else None h = refl
not_else (Some KwElse) h = absurd (h refl)
not_else _ h = refl

pub no_statement_first : (o : Option Kind) → (o ≡ Some Semicolon → ⊥) → by_first Statements o ≡
    Some last_statement
no_statement_first None h = refl
no_statement_first (Some Semicolon) h = absurd (h refl)
no_statement_first _ h = refl

pub no_field_first : (o : Option Kind) → (o ≡ Some Semicolon → ⊥) → by_first FieldLists o ≡
    Some last_field_list
no_field_first None h = refl
no_field_first (Some Semicolon) h = absurd (h refl)
no_field_first _ h = refl

pub no_section_first : (o : Option Kind) → (o ≡ Some Semicolon → ⊥) → by_first Sections o ≡
    Some last_section
no_section_first None h = refl
no_section_first (Some Semicolon) h = absurd (h refl)
no_section_first _ h = refl

pub no_list_first : (o : Option Kind) → (o ≡ Some Ident → ⊥) → by_first FieldList o ≡
    Some empty_field_list
no_list_first None h = refl
no_list_first (Some Ident) h = absurd (h refl)
no_list_first _ h = refl

pub no_constant_first : (o : Option Kind) → (o ≡ Some Ident → ⊥) → by_first ConstantList o ≡
    Some last_constant
no_constant_first None h = refl
no_constant_first (Some Ident) h = absurd (h refl)
no_constant_first _ h = refl

pub not_const : (o : Option Kind) → (o ≡ Some KwConst → ⊥) → by_first Constants o ≡
    Some no_constants
not_const None h = refl
not_const (Some KwConst) h = absurd (h refl)
not_const _ h = refl

pub no_type_first : (o : Option Kind) → (o ≡ Some Ident → ⊥) → by_first TypeList o ≡ Some last_type
no_type_first None h = refl
no_type_first (Some Ident) h = absurd (h refl)
no_type_first _ h = refl

pub not_type : (o : Option Kind) → (o ≡ Some KwType → ⊥) → by_first Types o ≡ Some no_types
not_type None h = refl
not_type (Some KwType) h = absurd (h refl)
not_type _ h = refl

pub no_variable_first : (o : Option Kind) → (o ≡ Some Ident → ⊥) → by_first VariableList o ≡
    Some last_variables
no_variable_first None h = refl
no_variable_first (Some Ident) h = absurd (h refl)
no_variable_first _ h = refl

pub not_var : (o : Option Kind) → (o ≡ Some KwVar → ⊥) → by_first Variables o ≡ Some no_variables
not_var None h = refl
not_var (Some KwVar) h = absurd (h refl)
not_var _ h = refl

pub by_value_first : (o : Option Kind) → (o ≡ Some KwVar → ⊥) → by_first ByVar o ≡ Some by_value
by_value_first None h = refl
by_value_first (Some KwVar) h = absurd (h refl)
by_value_first _ h = refl

pub not_procedure : (o : Option Kind) → (o ≡ Some KwProcedure → ⊥) → by_first Procedures o ≡
    Some no_procedures
not_procedure None h = refl
not_procedure (Some KwProcedure) h = absurd (h refl)
not_procedure _ h = refl

pub not_begin : (o : Option Kind) → (o ≡ Some KwBegin → ⊥) → by_first Body o ≡ Some no_body
not_begin None h = refl
not_begin (Some KwBegin) h = absurd (h refl)
not_begin _ h = refl
