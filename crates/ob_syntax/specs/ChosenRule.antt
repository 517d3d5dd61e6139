-- Which production the next tokens choose.
use Rattle.std.specs.Prelude.{◌≡◌, List, [], ◌∷◌, Option, Some, None}
use Rattle.ob_syntax.specs.declared.token.Kind.{Kind}
use Rattle.ob_syntax.specs.declared.token.Kind.TheVariants.{Ident, Number, KwArray, KwBegin}
use Rattle.ob_syntax.specs.declared.token.Kind.TheVariants.{KwConst, KwDiv, KwElse, KwElsif, KwIf}
use Rattle.ob_syntax.specs.declared.token.Kind.TheVariants.{KwMod, KwOr, KwProcedure, KwRecord}
use Rattle.ob_syntax.specs.declared.token.Kind.TheVariants.{KwRepeat, KwType, KwVar, KwWhile}
use Rattle.ob_syntax.specs.declared.token.Kind.TheVariants.{Period, Comma, Semicolon, Becomes}
use Rattle.ob_syntax.specs.declared.token.Kind.TheVariants.{LeftParen, LeftBracket, Tilde, Times}
use Rattle.ob_syntax.specs.declared.token.Kind.TheVariants.{Amp, Plus, Minus, Equal, Unequal, Less}
use Rattle.ob_syntax.specs.declared.token.Kind.TheVariants.{LessEqual, Greater, GreaterEqual}
use Rattle.ob_syntax.specs.Grammar.{Nonterminal, Selectors, Selector, Factor, Factors, Term, Terms}
use Rattle.ob_syntax.specs.Grammar.{Sign, SimpleExpression, Comparison, Expression, ArgumentList}
use Rattle.ob_syntax.specs.Grammar.{Arguments, ActualParameters, Arm, Elsifs, Arms, Else, Action}
use Rattle.ob_syntax.specs.Grammar.{Statement, Statements, StatementSequence, Idents, IdentList}
use Rattle.ob_syntax.specs.Grammar.{NameList, FieldList, FieldLists, FieldSequence, TypeExpression}
use Rattle.ob_syntax.specs.Grammar.{ByVar, Section, Sections, SectionList, FormalParameters}
use Rattle.ob_syntax.specs.Grammar.{Procedure, Procedures, Constant, ConstantList, Constants}
use Rattle.ob_syntax.specs.Grammar.{TypeDeclaration, TypeList, Types, VariableList, Variables}
use Rattle.ob_syntax.specs.Grammar.{Declarations, Body, Module, times, quotient, remainder, both}
use Rattle.ob_syntax.specs.Grammar.{plus, minus, either, equal, unequal, less, less_equal, greater}
use Rattle.ob_syntax.specs.Grammar.{greater_equal, Symbol, Rule, no_selectors, next_selector, field}
use Rattle.ob_syntax.specs.Grammar.{index, name, number, parenthesis, negation, no_factors}
use Rattle.ob_syntax.specs.Grammar.{next_factor, term, no_terms, next_term, no_sign, plus_sign}
use Rattle.ob_syntax.specs.Grammar.{minus_sign, simple_expression, no_comparison, comparison}
use Rattle.ob_syntax.specs.Grammar.{expression, no_arguments, arguments, last_argument}
use Rattle.ob_syntax.specs.Grammar.{next_argument, no_parameters, parameters, arm, no_elsif}
use Rattle.ob_syntax.specs.Grammar.{next_elsif, arms, no_else, otherwise, assignment, call}
use Rattle.ob_syntax.specs.Grammar.{if_statement, while_statement, repeat_statement}
use Rattle.ob_syntax.specs.Grammar.{empty_statement, statement, last_statement, next_statement}
use Rattle.ob_syntax.specs.Grammar.{statement_sequence, last_ident, next_ident, ident_list}
use Rattle.ob_syntax.specs.Grammar.{name_list, empty_field_list, field_list, last_field_list}
use Rattle.ob_syntax.specs.Grammar.{next_field_list, field_sequence, type_name, array, record_type}
use Rattle.ob_syntax.specs.Grammar.{by_value, by_var, section, last_section, next_section}
use Rattle.ob_syntax.specs.Grammar.{no_sections, sections, no_formals, formals, procedure}
use Rattle.ob_syntax.specs.Grammar.{no_procedures, next_procedure, constant, last_constant}
use Rattle.ob_syntax.specs.Grammar.{next_constant, no_constants, constants, type_declaration}
use Rattle.ob_syntax.specs.Grammar.{last_type, next_type, no_types, types, last_variables}
use Rattle.ob_syntax.specs.Grammar.{next_variables, no_variables, variables, declarations, no_body}
use Rattle.ob_syntax.specs.Grammar.{body, a_module, right}
use Rattle.ob_syntax.specs.Forms.{Form, Parts, made, done, taken, part, spells}

abbrev pub first : List Kind → Option Kind
first [] = None
first (k ∷ ks) = Some k

-- by the next token
abbrev pub by_first : (n : Nonterminal) → Option Kind → Option (Rule n)
by_first Selectors (Some Period) = Some next_selector
by_first Selectors (Some LeftBracket) = Some next_selector
by_first Selectors _ = Some no_selectors
by_first Selector (Some Period) = Some field
by_first Selector (Some LeftBracket) = Some index
by_first Factor (Some Ident) = Some name
by_first Factor (Some (Number n)) = Some (number n)
by_first Factor (Some LeftParen) = Some parenthesis
by_first Factor (Some Tilde) = Some negation
by_first Factors (Some Times) = Some (next_factor times)
by_first Factors (Some KwDiv) = Some (next_factor quotient)
by_first Factors (Some KwMod) = Some (next_factor remainder)
by_first Factors (Some Amp) = Some (next_factor both)
by_first Factors _ = Some no_factors
by_first Term _ = Some term
by_first Terms (Some Plus) = Some (next_term plus)
by_first Terms (Some Minus) = Some (next_term minus)
by_first Terms (Some KwOr) = Some (next_term either)
by_first Terms _ = Some no_terms
by_first Sign (Some Plus) = Some plus_sign
by_first Sign (Some Minus) = Some minus_sign
by_first Sign _ = Some no_sign
by_first SimpleExpression _ = Some simple_expression
by_first Comparison (Some Equal) = Some (comparison equal)
by_first Comparison (Some Unequal) = Some (comparison unequal)
by_first Comparison (Some Less) = Some (comparison less)
by_first Comparison (Some LessEqual) = Some (comparison less_equal)
by_first Comparison (Some Greater) = Some (comparison greater)
by_first Comparison (Some GreaterEqual) = Some (comparison greater_equal)
by_first Comparison _ = Some no_comparison
by_first Expression _ = Some expression
by_first ArgumentList (Some Plus) = Some arguments
by_first ArgumentList (Some Minus) = Some arguments
by_first ArgumentList (Some Ident) = Some arguments
by_first ArgumentList (Some (Number n)) = Some arguments
by_first ArgumentList (Some LeftParen) = Some arguments
by_first ArgumentList (Some Tilde) = Some arguments
by_first ArgumentList _ = Some no_arguments
by_first Arguments (Some Comma) = Some next_argument
by_first Arguments _ = Some last_argument
by_first ActualParameters (Some LeftParen) = Some parameters
by_first ActualParameters _ = Some no_parameters
by_first Arm _ = Some arm
by_first Arms _ = Some arms
by_first Elsifs (Some KwElsif) = Some next_elsif
by_first Elsifs _ = Some no_elsif
by_first Else (Some KwElse) = Some otherwise
by_first Else _ = Some no_else
by_first Action (Some KwIf) = Some if_statement
by_first Action (Some KwWhile) = Some while_statement
by_first Action (Some KwRepeat) = Some repeat_statement
by_first Statement (Some Ident) = Some statement
by_first Statement (Some KwIf) = Some statement
by_first Statement (Some KwWhile) = Some statement
by_first Statement (Some KwRepeat) = Some statement
by_first Statement _ = Some empty_statement
by_first Statements (Some Semicolon) = Some next_statement
by_first Statements _ = Some last_statement
by_first StatementSequence _ = Some statement_sequence
by_first Idents (Some Comma) = Some next_ident
by_first Idents _ = Some last_ident
by_first IdentList _ = Some ident_list
by_first NameList _ = Some name_list
by_first FieldList (Some Ident) = Some field_list
by_first FieldList _ = Some empty_field_list
by_first FieldLists (Some Semicolon) = Some next_field_list
by_first FieldLists _ = Some last_field_list
by_first FieldSequence _ = Some field_sequence
by_first TypeExpression (Some Ident) = Some type_name
by_first TypeExpression (Some KwArray) = Some array
by_first TypeExpression (Some KwRecord) = Some record_type
by_first ByVar (Some KwVar) = Some by_var
by_first ByVar _ = Some by_value
by_first Section _ = Some section
by_first Sections (Some Semicolon) = Some next_section
by_first Sections _ = Some last_section
by_first SectionList (Some KwVar) = Some sections
by_first SectionList (Some Ident) = Some sections
by_first SectionList _ = Some no_sections
by_first FormalParameters (Some LeftParen) = Some formals
by_first FormalParameters _ = Some no_formals
by_first Procedure _ = Some procedure
by_first Procedures (Some KwProcedure) = Some next_procedure
by_first Procedures _ = Some no_procedures
by_first Constant _ = Some constant
by_first ConstantList (Some Ident) = Some next_constant
by_first ConstantList _ = Some last_constant
by_first Constants (Some KwConst) = Some constants
by_first Constants _ = Some no_constants
by_first TypeDeclaration _ = Some type_declaration
by_first TypeList (Some Ident) = Some next_type
by_first TypeList _ = Some last_type
by_first Types (Some KwType) = Some types
by_first Types _ = Some no_types
by_first VariableList (Some Ident) = Some next_variables
by_first VariableList _ = Some last_variables
by_first Variables (Some KwVar) = Some variables
by_first Variables _ = Some no_variables
by_first Declarations _ = Some declarations
by_first Body (Some KwBegin) = Some body
by_first Body _ = Some no_body
by_first Module _ = Some a_module
by_first _ _ = None

-- behind the name that begins a statement
abbrev pub behind_name : Option Kind → Option (Rule Action)
behind_name (Some Period) = Some assignment
behind_name (Some LeftBracket) = Some assignment
behind_name (Some Becomes) = Some assignment
behind_name _ = Some call

-- by the next token, and at the name that begins a statement also by the one behind it
abbrev pub choose : (n : Nonterminal) → List Kind → Option (Rule n)
choose Action (Ident ∷ ks) = behind_name (first ks)
choose n ks = by_first n (first ks)

-- The production at each node is the one that the tokens choose, where ks stands behind the form.
abbrev mutual
  pub Ends : (n : Nonterminal) → Form n → List Kind → Type 0
  Ends n (made _ r ps) ks = (choose n (spells (right r) ps ks) ≡ Some r) × Follow (right r) ps ks

  pub Follow : (ss : List Symbol) → Parts ss → List Kind → Type 0
  Follow _ done ks = Unit {0}
  Follow _ (taken k ss ps) ks = Follow ss ps ks
  Follow _ (part d m ss f ps) ks = Ends m f (spells ss ps ks) × Follow ss ps ks
