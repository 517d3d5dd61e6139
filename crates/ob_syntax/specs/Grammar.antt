-- The grammar of Oberon-0, production by production (Wirth, Compiler Construction, appendix A.1).
-- Each option and each repetition of the book's notation is a nonterminal of its own.
use Rattle.std.specs.Prelude.{List, [], ◌∷◌, ℤ}
use Rattle.ob_syntax.specs.declared.token.Kind.{Kind}
use Rattle.ob_syntax.specs.declared.token.Kind.TheVariants.{Ident, Number, KwArray, KwBegin}
use Rattle.ob_syntax.specs.declared.token.Kind.TheVariants.{KwConst, KwDiv, KwDo, KwElse, KwElsif}
use Rattle.ob_syntax.specs.declared.token.Kind.TheVariants.{KwEnd, KwIf, KwMod, KwModule, KwOf}
use Rattle.ob_syntax.specs.declared.token.Kind.TheVariants.{KwOr, KwProcedure, KwRecord, KwRepeat}
use Rattle.ob_syntax.specs.declared.token.Kind.TheVariants.{KwThen, KwType, KwUntil, KwVar, KwWhile}
use Rattle.ob_syntax.specs.declared.token.Kind.TheVariants.{Period, Comma, Semicolon, Colon}
use Rattle.ob_syntax.specs.declared.token.Kind.TheVariants.{Becomes, LeftParen, RightParen}
use Rattle.ob_syntax.specs.declared.token.Kind.TheVariants.{LeftBracket, RightBracket, Tilde, Times}
use Rattle.ob_syntax.specs.declared.token.Kind.TheVariants.{Amp, Plus, Minus, Equal, Unequal, Less}
use Rattle.ob_syntax.specs.declared.token.Kind.TheVariants.{LessEqual, Greater, GreaterEqual}

pub data Nonterminal : Type 0 where
  Selectors : Nonterminal
  Selector : Nonterminal
  Factor : Nonterminal
  Factors : Nonterminal
  Term : Nonterminal
  Terms : Nonterminal
  Sign : Nonterminal
  SimpleExpression : Nonterminal
  Comparison : Nonterminal
  Expression : Nonterminal
  ArgumentList : Nonterminal
  Arguments : Nonterminal
  ActualParameters : Nonterminal
  Arm : Nonterminal
  Elsifs : Nonterminal
  Arms : Nonterminal
  Else : Nonterminal
  Action : Nonterminal
  Statement : Nonterminal
  Statements : Nonterminal
  StatementSequence : Nonterminal
  Idents : Nonterminal
  IdentList : Nonterminal
  NameList : Nonterminal
  FieldList : Nonterminal
  FieldLists : Nonterminal
  FieldSequence : Nonterminal
  TypeExpression : Nonterminal
  ByVar : Nonterminal
  Section : Nonterminal
  Sections : Nonterminal
  SectionList : Nonterminal
  FormalParameters : Nonterminal
  Procedure : Nonterminal
  Procedures : Nonterminal
  Constant : Nonterminal
  ConstantList : Nonterminal
  Constants : Nonterminal
  TypeDeclaration : Nonterminal
  TypeList : Nonterminal
  Types : Nonterminal
  VariableList : Nonterminal
  Variables : Nonterminal
  Declarations : Nonterminal
  Body : Nonterminal
  Module : Nonterminal

pub data MulOp : Type 0 where
  times : MulOp
  quotient : MulOp
  remainder : MulOp
  both : MulOp

pub data AddOp : Type 0 where
  plus : AddOp
  minus : AddOp
  either : AddOp

pub data RelationOp : Type 0 where
  equal : RelationOp
  unequal : RelationOp
  less : RelationOp
  less_equal : RelationOp
  greater : RelationOp
  greater_equal : RelationOp

abbrev pub mul_kind : MulOp → Kind
mul_kind times = Times
mul_kind quotient = KwDiv
mul_kind remainder = KwMod
mul_kind both = Amp

abbrev pub add_kind : AddOp → Kind
add_kind plus = Plus
add_kind minus = Minus
add_kind either = KwOr

abbrev pub relation_kind : RelationOp → Kind
relation_kind equal = Equal
relation_kind unequal = Unequal
relation_kind less = Less
relation_kind less_equal = LessEqual
relation_kind greater = Greater
relation_kind greater_equal = GreaterEqual

-- how much deeper than the phrase around it a phrase nests: as deep, one deeper, or at least one
-- deeper even where it holds nothing that counts
pub data Nesting : Type 0 where
  level : Nesting
  deeper : Nesting
  inner : Nesting

pub data Symbol : Type 0 where
  token : Kind → Symbol
  phrase : Nesting → Nonterminal → Symbol

-- the productions, by the nonterminal on their left
pub data Rule : Nonterminal → Type 0 where
  no_selectors : Rule Selectors
  next_selector : Rule Selectors
  field : Rule Selector
  index : Rule Selector
  name : Rule Factor
  number : ℤ → Rule Factor
  parenthesis : Rule Factor
  negation : Rule Factor
  no_factors : Rule Factors
  next_factor : MulOp → Rule Factors
  term : Rule Term
  no_terms : Rule Terms
  next_term : AddOp → Rule Terms
  no_sign : Rule Sign
  plus_sign : Rule Sign
  minus_sign : Rule Sign
  simple_expression : Rule SimpleExpression
  no_comparison : Rule Comparison
  comparison : RelationOp → Rule Comparison
  expression : Rule Expression
  no_arguments : Rule ArgumentList
  arguments : Rule ArgumentList
  last_argument : Rule Arguments
  next_argument : Rule Arguments
  no_parameters : Rule ActualParameters
  parameters : Rule ActualParameters
  arm : Rule Arm
  no_elsif : Rule Elsifs
  next_elsif : Rule Elsifs
  arms : Rule Arms
  no_else : Rule Else
  otherwise : Rule Else
  assignment : Rule Action
  call : Rule Action
  if_statement : Rule Action
  while_statement : Rule Action
  repeat_statement : Rule Action
  empty_statement : Rule Statement
  statement : Rule Statement
  last_statement : Rule Statements
  next_statement : Rule Statements
  statement_sequence : Rule StatementSequence
  last_ident : Rule Idents
  next_ident : Rule Idents
  ident_list : Rule IdentList
  name_list : Rule NameList
  empty_field_list : Rule FieldList
  field_list : Rule FieldList
  last_field_list : Rule FieldLists
  next_field_list : Rule FieldLists
  field_sequence : Rule FieldSequence
  type_name : Rule TypeExpression
  array : Rule TypeExpression
  record_type : Rule TypeExpression
  by_value : Rule ByVar
  by_var : Rule ByVar
  section : Rule Section
  last_section : Rule Sections
  next_section : Rule Sections
  no_sections : Rule SectionList
  sections : Rule SectionList
  no_formals : Rule FormalParameters
  formals : Rule FormalParameters
  procedure : Rule Procedure
  no_procedures : Rule Procedures
  next_procedure : Rule Procedures
  constant : Rule Constant
  last_constant : Rule ConstantList
  next_constant : Rule ConstantList
  no_constants : Rule Constants
  constants : Rule Constants
  type_declaration : Rule TypeDeclaration
  last_type : Rule TypeList
  next_type : Rule TypeList
  no_types : Rule Types
  types : Rule Types
  last_variables : Rule VariableList
  next_variables : Rule VariableList
  no_variables : Rule Variables
  variables : Rule Variables
  declarations : Rule Declarations
  no_body : Rule Body
  body : Rule Body
  a_module : Rule Module

abbrev the : Nonterminal → Symbol
the n = phrase level n

abbrev nested : Nonterminal → Symbol
nested n = phrase deeper n

abbrev within : Nonterminal → Symbol
within n = phrase inner n

-- the right sides of the productions
abbrev pub right : {n : Nonterminal} → Rule n → List Symbol
-- selector = {"." ident | "[" expression "]"}.
right no_selectors = []
right next_selector = the Selector ∷ the Selectors ∷ []
right field = token Period ∷ token Ident ∷ []
right index = token LeftBracket ∷ nested Expression ∷ token RightBracket ∷ []
-- factor = ident selector | integer | "(" expression ")" | "~" factor.
right name = token Ident ∷ the Selectors ∷ []
right (number n) = token (Number n) ∷ []
right parenthesis = token LeftParen ∷ nested Expression ∷ token RightParen ∷ []
right negation = token Tilde ∷ nested Factor ∷ []
-- term = factor {("*" | "DIV" | "MOD" | "&") factor}.
right term = the Factor ∷ the Factors ∷ []
right no_factors = []
right (next_factor op) = token (mul_kind op) ∷ the Factor ∷ the Factors ∷ []
-- SimpleExpression = ["+" | "-"] term {("+" | "-" | "OR") term}.
right simple_expression = the Sign ∷ the Term ∷ the Terms ∷ []
right no_sign = []
right plus_sign = token Plus ∷ []
right minus_sign = token Minus ∷ []
right no_terms = []
right (next_term op) = token (add_kind op) ∷ the Term ∷ the Terms ∷ []
-- expression = SimpleExpression [("=" | "#" | "<" | "<=" | ">" | ">=") SimpleExpression].
right expression = the SimpleExpression ∷ the Comparison ∷ []
right no_comparison = []
right (comparison op) = token (relation_kind op) ∷ the SimpleExpression ∷ []
-- ActualParameters = "(" [expression {"," expression}] ")".
right parameters = token LeftParen ∷ the ArgumentList ∷ token RightParen ∷ []
right no_arguments = []
right arguments = nested Expression ∷ the Arguments ∷ []
right last_argument = []
right next_argument = token Comma ∷ nested Expression ∷ the Arguments ∷ []
-- assignment = ident selector ":=" expression.
right assignment = token Ident ∷ the Selectors ∷ token Becomes ∷ the Expression ∷ []
-- ProcedureCall = ident [ActualParameters].
right call = token Ident ∷ the ActualParameters ∷ []
right no_parameters = []
-- IfStatement = "IF" expression "THEN" StatementSequence
--   {"ELSIF" expression "THEN" StatementSequence} ["ELSE" StatementSequence] "END".
right if_statement = token KwIf ∷ the Arms ∷ the Else ∷ token KwEnd ∷ []
right arms = the Arm ∷ the Elsifs ∷ []
right arm = the Expression ∷ token KwThen ∷ within StatementSequence ∷ []
right no_elsif = []
right next_elsif = token KwElsif ∷ the Arm ∷ the Elsifs ∷ []
right no_else = []
right otherwise = token KwElse ∷ within StatementSequence ∷ []
-- WhileStatement = "WHILE" expression "DO" StatementSequence "END".
right while_statement =
    token KwWhile ∷ the Expression ∷ token KwDo ∷ within StatementSequence ∷ token KwEnd ∷ []
-- RepeatStatement = "REPEAT" StatementSequence "UNTIL" expression.
right repeat_statement =
    token KwRepeat ∷ within StatementSequence ∷ token KwUntil ∷ the Expression ∷ []
-- statement = [assignment | ProcedureCall | IfStatement | WhileStatement | RepeatStatement].
right empty_statement = []
right statement = nested Action ∷ []
-- StatementSequence = statement {";" statement}.
right statement_sequence = the Statement ∷ the Statements ∷ []
right last_statement = []
right next_statement = token Semicolon ∷ the Statement ∷ the Statements ∷ []
-- IdentList = ident {"," ident}.
right ident_list = token Ident ∷ the Idents ∷ []
right last_ident = []
right next_ident = token Comma ∷ token Ident ∷ the Idents ∷ []
-- type = ident | ArrayType | RecordType. ArrayType = "ARRAY" expression "OF" type.
-- RecordType = "RECORD" FieldList {";" FieldList} "END". FieldList = [IdentList ":" type].
right type_name = token Ident ∷ []
right array = token KwArray ∷ the Expression ∷ token KwOf ∷ nested TypeExpression ∷ []
right record_type = token KwRecord ∷ the FieldSequence ∷ token KwEnd ∷ []
right field_sequence = the FieldList ∷ the FieldLists ∷ []
right name_list = the IdentList ∷ token Colon ∷ the TypeExpression ∷ []
right empty_field_list = []
right field_list = nested NameList ∷ []
right last_field_list = []
right next_field_list = token Semicolon ∷ the FieldList ∷ the FieldLists ∷ []
-- FPSection = ["VAR"] IdentList ":" type. FormalParameters = "(" [FPSection {";" FPSection}] ")".
right section = the ByVar ∷ the IdentList ∷ token Colon ∷ the TypeExpression ∷ []
right by_value = []
right by_var = token KwVar ∷ []
right formals = token LeftParen ∷ the SectionList ∷ token RightParen ∷ []
right no_sections = []
right sections = the Section ∷ the Sections ∷ []
right last_section = []
right next_section = token Semicolon ∷ the Section ∷ the Sections ∷ []
-- ProcedureHeading = "PROCEDURE" ident [FormalParameters].
-- ProcedureDeclaration = ProcedureHeading ";" declarations ["BEGIN" StatementSequence] "END" ident.
right procedure =
    token KwProcedure ∷ token Ident ∷ the FormalParameters ∷ token Semicolon ∷
    the Declarations ∷ the Body ∷ token KwEnd ∷ token Ident ∷ []
right no_formals = []
right no_body = []
right body = token KwBegin ∷ the StatementSequence ∷ []
-- declarations = ["CONST" {ident "=" expression ";"}] ["TYPE" {ident "=" type ";"}]
--   ["VAR" {IdentList ":" type ";"}] {ProcedureDeclaration ";"}.
right declarations = the Constants ∷ the Types ∷ the Variables ∷ the Procedures ∷ []
right no_constants = []
right constants = token KwConst ∷ the ConstantList ∷ []
right last_constant = []
right next_constant = nested Constant ∷ token Semicolon ∷ the ConstantList ∷ []
right constant = token Ident ∷ token Equal ∷ the Expression ∷ []
right no_types = []
right types = token KwType ∷ the TypeList ∷ []
right last_type = []
right next_type = nested TypeDeclaration ∷ token Semicolon ∷ the TypeList ∷ []
right type_declaration = token Ident ∷ token Equal ∷ the TypeExpression ∷ []
right no_variables = []
right variables = token KwVar ∷ the VariableList ∷ []
right last_variables = []
right next_variables = nested NameList ∷ token Semicolon ∷ the VariableList ∷ []
right no_procedures = []
right next_procedure = nested Procedure ∷ token Semicolon ∷ the Procedures ∷ []
-- module = "MODULE" ident ";" declarations ["BEGIN" StatementSequence] "END" ident ".".
right a_module =
    token KwModule ∷ token Ident ∷ token Semicolon ∷ the Declarations ∷ the Body ∷
    token KwEnd ∷ token Ident ∷ token Period ∷ []
