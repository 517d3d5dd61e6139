-- Every form of the grammar is the one that its tokens choose, where what stands behind it goes on
-- with no part of it:
-- the grammar can be read by the next token.
use Rattle.std.proofs.Common.{◌≡◌, ℕ, suc, ◌≤◌, ◌<◌, max, List, [], ◌∷◌, Some, Bool, true, false}
use Rattle.std.proofs.Common.{refl, ap, subst, arith, lit≤}
use Rattle.std.proofs.lemmas.Bool.{ltb-true}
use Rattle.std.specs.Prelude.{IsTrue, nat_lt, if◌then◌else◌}
use Rattle.ob_syntax.specs.declared.token.Kind.{Kind}
use Rattle.ob_syntax.specs.declared.token.Kind.TheVariants.{Ident, Number, KwBegin, KwConst, KwDiv}
use Rattle.ob_syntax.specs.declared.token.Kind.TheVariants.{KwElse, KwElsif, KwIf, KwMod, KwOr}
use Rattle.ob_syntax.specs.declared.token.Kind.TheVariants.{KwProcedure, KwRepeat, KwType, KwVar}
use Rattle.ob_syntax.specs.declared.token.Kind.TheVariants.{KwWhile, Period, Comma, Semicolon}
use Rattle.ob_syntax.specs.declared.token.Kind.TheVariants.{Becomes, LeftParen, LeftBracket, Tilde}
use Rattle.ob_syntax.specs.declared.token.Kind.TheVariants.{Times, Amp, Plus, Minus, Equal, Unequal}
use Rattle.ob_syntax.specs.declared.token.Kind.TheVariants.{Less, LessEqual, Greater, GreaterEqual}
use Rattle.ob_syntax.specs.Grammar.{MulOp, AddOp, RelationOp, mul_kind, add_kind, relation_kind}
use Rattle.ob_syntax.specs.Grammar.{Nonterminal, Selectors, Selector, Factor, Factors, Term, Terms}
use Rattle.ob_syntax.specs.Grammar.{Sign, SimpleExpression, Comparison, Expression, ArgumentList}
use Rattle.ob_syntax.specs.Grammar.{Arguments, ActualParameters, Arm, Elsifs, Arms, Else, Action}
use Rattle.ob_syntax.specs.Grammar.{Statement, Statements, StatementSequence, Idents, IdentList}
use Rattle.ob_syntax.specs.Grammar.{NameList, FieldList, FieldLists, FieldSequence, TypeExpression}
use Rattle.ob_syntax.specs.Grammar.{ByVar, Section, Sections, SectionList, FormalParameters}
use Rattle.ob_syntax.specs.Grammar.{Procedure, Procedures, Constant, ConstantList, Constants}
use Rattle.ob_syntax.specs.Grammar.{TypeDeclaration, TypeList, Types, VariableList, Variables}
use Rattle.ob_syntax.specs.Grammar.{Declarations, Body, Module, times, quotient, remainder, both}
use Rattle.ob_syntax.specs.Grammar.{plus, minus, either, equal, unequal, less, less_equal, greater}
use Rattle.ob_syntax.specs.Grammar.{greater_equal, Symbol, token, phrase, Rule, no_selectors}
use Rattle.ob_syntax.specs.Grammar.{next_selector, field, index, name, number, parenthesis}
use Rattle.ob_syntax.specs.Grammar.{negation, no_factors, next_factor, term, no_terms, next_term}
use Rattle.ob_syntax.specs.Grammar.{no_sign, plus_sign, minus_sign, simple_expression}
use Rattle.ob_syntax.specs.Grammar.{no_comparison, comparison, expression, no_arguments, arguments}
use Rattle.ob_syntax.specs.Grammar.{last_argument, next_argument, no_parameters, parameters, arm}
use Rattle.ob_syntax.specs.Grammar.{no_elsif, next_elsif, arms, no_else, otherwise, assignment}
use Rattle.ob_syntax.specs.Grammar.{call, if_statement, while_statement, repeat_statement}
use Rattle.ob_syntax.specs.Grammar.{empty_statement, statement, last_statement, next_statement}
use Rattle.ob_syntax.specs.Grammar.{statement_sequence, last_ident, next_ident, ident_list}
use Rattle.ob_syntax.specs.Grammar.{name_list, empty_field_list, field_list, last_field_list}
use Rattle.ob_syntax.specs.Grammar.{next_field_list, field_sequence, type_name, array, record_type}
use Rattle.ob_syntax.specs.Grammar.{by_value, by_var, section, last_section, next_section}
use Rattle.ob_syntax.specs.Grammar.{no_sections, sections, no_formals, formals, procedure}
use Rattle.ob_syntax.specs.Grammar.{no_procedures, next_procedure, constant, last_constant}
use Rattle.ob_syntax.specs.Grammar.{next_constant, no_constants, constants, type_declaration}
use Rattle.ob_syntax.specs.Grammar.{last_type, next_type, no_types, types, last_variables}
use Rattle.ob_syntax.specs.Grammar.{next_variables, no_variables, variables, declarations, no_body}
use Rattle.ob_syntax.specs.Grammar.{body, a_module, right}
use Rattle.ob_syntax.specs.Forms.{Form, Parts, made, done, taken, part, spell, spells}
use Rattle.ob_syntax.specs.ChosenRule.{first, by_first, behind_name, choose, Ends, Follow}
use Rattle.ob_syntax.proofs.TokensChoose.{by_value_first, mul_first, no_mul_first, add_first}
use Rattle.ob_syntax.proofs.TokensChoose.{no_add_first, relation_first, no_relation_first}
use Rattle.ob_syntax.proofs.TokensChoose.{no_selector, no_sign_at, no_argument_at, not_comma}
use Rattle.ob_syntax.proofs.TokensChoose.{not_left_paren, not_elsif, not_else, no_statement_at}
use Rattle.ob_syntax.proofs.TokensChoose.{no_statement_first, no_ident_first, no_list_first}
use Rattle.ob_syntax.proofs.TokensChoose.{no_field_first, no_section_at, no_section_first}
use Rattle.ob_syntax.proofs.TokensChoose.{no_formals_first, not_procedure, no_constant_first}
use Rattle.ob_syntax.proofs.TokensChoose.{not_const, no_type_first, not_type, no_variable_first}
use Rattle.ob_syntax.proofs.TokensChoose.{not_var, not_begin, no_assignment}

-- How far out a token goes on with what stands before it: a token goes on only with phrases of at
-- most its level.
abbrev level : Kind → ℕ
level Period = 9
level LeftBracket = 9
level Times = 8
level KwDiv = 8
level KwMod = 8
level Amp = 8
level Plus = 7
level Minus = 7
level KwOr = 7
level Equal = 6
level Unequal = 6
level Less = 6
level LessEqual = 6
level Greater = 6
level GreaterEqual = 6
level LeftParen = 6
level Becomes = 6
level Ident = 5
level (Number n) = 5
level Tilde = 5
level KwIf = 5
level KwWhile = 5
level KwRepeat = 5
level KwConst = 5
level KwType = 4
level KwVar = 3
level Semicolon = 3
level KwElsif = 2
level KwProcedure = 2
level KwElse = 1
level KwBegin = 1
level Comma = 1
level _ = 0

-- what may stand behind a phrase is below this level
abbrev bound : Nonterminal → ℕ
bound Selectors = 9
bound Selector = 10
bound Factor = 9
bound Factors = 8
bound Term = 8
bound Terms = 7
bound Sign = 7
bound SimpleExpression = 7
bound Comparison = 6
bound Expression = 6
bound ArgumentList = 1
bound Arguments = 1
bound ActualParameters = 4
bound Arm = 3
bound Elsifs = 2
bound Arms = 2
bound Else = 1
bound Action = 4
bound Statement = 4
bound Statements = 3
bound StatementSequence = 3
bound Idents = 1
bound IdentList = 1
bound NameList = 10
bound FieldList = 4
bound FieldLists = 3
bound FieldSequence = 3
bound TypeExpression = 10
bound ByVar = 3
bound Section = 10
bound Sections = 3
bound SectionList = 1
bound FormalParameters = 4
bound Procedure = 10
bound Procedures = 2
bound Constant = 6
bound ConstantList = 5
bound Constants = 5
bound TypeDeclaration = 10
bound TypeList = 5
bound Types = 4
bound VariableList = 5
bound Variables = 3
bound Declarations = 2
bound Body = 1
bound Module = 10

-- the first token of a phrase is below this level
abbrev head : Nonterminal → ℕ
head Selectors = 10
head Selector = 10
head Factor = 7
head Factors = 9
head Term = 7
head Terms = 8
head Sign = 8
head SimpleExpression = 8
head Comparison = 7
head Expression = 8
head ArgumentList = 8
head Arguments = 2
head ActualParameters = 7
head Arm = 8
head Elsifs = 3
head Arms = 8
head Else = 2
head Statements = 4
head Idents = 2
head FieldLists = 4
head Sections = 4
head FormalParameters = 7
head Procedure = 3
head Procedures = 3
head Types = 5
head Variables = 4
head Body = 2
head Module = 1
head _ = 6

-- whether a phrase has a token in each of its forms
abbrev solid : Nonterminal → Bool
solid Selector = true
solid Factor = true
solid Term = true
solid SimpleExpression = true
solid Expression = true
solid Arm = true
solid Arms = true
solid Action = true
solid IdentList = true
solid NameList = true
solid TypeExpression = true
solid Section = true
solid Procedure = true
solid Constant = true
solid TypeDeclaration = true
solid Module = true
solid _ = false

-- the level that the first token of m is below, where what stands behind it is below b
abbrev after : Bool → ℕ → ℕ → ℕ
after true h b = h
after false h b = max h b

abbrev reach : List Symbol → ℕ → ℕ
reach [] b = b
reach (token k ∷ ss) b = suc (level k)
reach (phrase d m ∷ ss) b = after (solid m) (head m) (reach ss b)

abbrev solids : List Symbol → Bool
solids [] = false
solids (token k ∷ ss) = true
solids (phrase d m ∷ ss) = if solid m then true else solids ss

-- What may stand behind m stands behind it. (A name goes on with a list of declarations, and VAR
-- ends it; behind an
-- absent VAR it is the other way round, so that no order of levels has both.)
abbrev followed : Nonterminal → List Symbol → ℕ → Bool
followed ByVar (phrase d IdentList ∷ ss) b = true
followed m ss b = nat_lt (reach ss b) (suc (bound m))

-- each symbol is followed by what may stand behind it, where b stands behind the last
abbrev tight : List Symbol → ℕ → Bool
tight [] b = true
tight (token k ∷ ss) b = tight ss b
tight (phrase d m ∷ ss) b = if followed m ss b then tight ss b else false

abbrev fits : (n : Nonterminal) → Rule n → Bool
fits n r = if nat_lt (reach (right r) 0) (suc (head n)) then
    (if (if solid n then solids (right r) else true) then tight (right r) (bound n) else false) else
    false

all_fit : (n : Nonterminal) (r : Rule n) → IsTrue (fits n r)
all_fit _ no_selectors = refl
all_fit _ next_selector = refl
all_fit _ field = refl
all_fit _ index = refl
all_fit _ name = refl
all_fit _ (number n) = refl
all_fit _ parenthesis = refl
all_fit _ negation = refl
all_fit _ no_factors = refl
all_fit _ (next_factor times) = refl
all_fit _ (next_factor quotient) = refl
all_fit _ (next_factor remainder) = refl
all_fit _ (next_factor both) = refl
all_fit _ term = refl
all_fit _ no_terms = refl
all_fit _ (next_term plus) = refl
all_fit _ (next_term minus) = refl
all_fit _ (next_term either) = refl
all_fit _ no_sign = refl
all_fit _ plus_sign = refl
all_fit _ minus_sign = refl
all_fit _ simple_expression = refl
all_fit _ no_comparison = refl
all_fit _ (comparison equal) = refl
all_fit _ (comparison unequal) = refl
all_fit _ (comparison less) = refl
all_fit _ (comparison less_equal) = refl
all_fit _ (comparison greater) = refl
all_fit _ (comparison greater_equal) = refl
all_fit _ expression = refl
all_fit _ no_arguments = refl
all_fit _ arguments = refl
all_fit _ last_argument = refl
all_fit _ next_argument = refl
all_fit _ no_parameters = refl
all_fit _ parameters = refl
all_fit _ arm = refl
all_fit _ no_elsif = refl
all_fit _ next_elsif = refl
all_fit _ arms = refl
all_fit _ no_else = refl
all_fit _ otherwise = refl
all_fit _ assignment = refl
all_fit _ call = refl
all_fit _ if_statement = refl
all_fit _ while_statement = refl
all_fit _ repeat_statement = refl
all_fit _ empty_statement = refl
all_fit _ statement = refl
all_fit _ last_statement = refl
all_fit _ next_statement = refl
all_fit _ statement_sequence = refl
all_fit _ last_ident = refl
all_fit _ next_ident = refl
all_fit _ ident_list = refl
all_fit _ name_list = refl
all_fit _ empty_field_list = refl
all_fit _ field_list = refl
all_fit _ last_field_list = refl
all_fit _ next_field_list = refl
all_fit _ field_sequence = refl
all_fit _ type_name = refl
all_fit _ array = refl
all_fit _ record_type = refl
all_fit _ by_value = refl
all_fit _ by_var = refl
all_fit _ section = refl
all_fit _ last_section = refl
all_fit _ next_section = refl
all_fit _ no_sections = refl
all_fit _ sections = refl
all_fit _ no_formals = refl
all_fit _ formals = refl
all_fit _ procedure = refl
all_fit _ no_procedures = refl
all_fit _ next_procedure = refl
all_fit _ constant = refl
all_fit _ last_constant = refl
all_fit _ next_constant = refl
all_fit _ no_constants = refl
all_fit _ constants = refl
all_fit _ type_declaration = refl
all_fit _ last_type = refl
all_fit _ next_type = refl
all_fit _ no_types = refl
all_fit _ types = refl
all_fit _ last_variables = refl
all_fit _ next_variables = refl
all_fit _ no_variables = refl
all_fit _ variables = refl
all_fit _ declarations = refl
all_fit _ no_body = refl
all_fit _ body = refl
all_fit _ a_module = refl

no_truth : IsTrue false → ⊥
no_truth h = cc

both_of : (x y : Bool) → IsTrue (if x then y else false) → IsTrue x × IsTrue y
both_of true y h = (refl, h)
both_of false y h = absurd (no_truth h)

record Below (b : ℕ) (ks : List Kind) : Type 0 where
  pub less : (k : Kind) → first ks ≡ Some k → level k < b

none_below : (b : ℕ) → Below b []
none_below b = record { less = λ k e. cc }

one_below : (b : ℕ) (k : Kind) (ks : List Kind) → level k < b → Below b (k ∷ ks)
one_below b k ks h = record { less = λ j e. let i : k ≡ j = cc in subst (λ x. level x < b) i h }

weaker : (a b : ℕ) (ks : List Kind) → a ≤ b → Below a ks → Below b ks
weaker a b ks le h = record { less = λ k e. let i = h.less k e in omega arith }

absent : {b : ℕ} {ks : List Kind} → Below b ks → (k : Kind) → b ≤ level k → first ks ≡ Some k → ⊥
absent h k le e = let i = h.less k e in omega arith

after_more : (s : Bool) (h x y b : ℕ) → y ≤ max x b → after s h y ≤ max (after s h x) b
after_more true h x y b le = omega arith
after_more false h x y b le = omega arith

reach_more : (ss : List Symbol) (b : ℕ) → reach ss b ≤ max (reach ss 0) b
reach_more [] b = omega arith
reach_more (token k ∷ ss) b = omega arith
reach_more (phrase d m ∷ ss) b = after_more (solid m) (head m) (reach ss 0) (reach ss b) b
    (reach_more ss b)

after_solid : (s : Bool) (h x y : ℕ) (rest : Bool) → IsTrue (if s then true else rest) →
    (IsTrue rest → y ≤ x) → after s h y ≤ after s h x
after_solid true h x y rest t le = omega arith
after_solid false h x y rest t le = let i = le t in omega arith

reach_solid : (ss : List Symbol) (b : ℕ) → IsTrue (solids ss) → reach ss b ≤ reach ss 0
reach_solid [] b t = absurd (no_truth t)
reach_solid (token k ∷ ss) b t = omega arith
reach_solid (phrase d m ∷ ss) b t = after_solid (solid m) (head m) (reach ss 0) (reach ss b)
    (solids ss) t (reach_solid ss b)

rule_after : (s : Bool) (ss : List Symbol) (h b : ℕ) → IsTrue (if s then solids ss else true) →
    reach ss 0 ≤ h → reach ss b ≤ after s h b
rule_after true ss h b t le = let i = reach_solid ss b t in omega arith
rule_after false ss h b t le = let i = reach_more ss b in omega arith

below_of : (a b : ℕ) → IsTrue (nat_lt a (suc b)) → a ≤ b
below_of a b t = let i = ltb-true a (suc b) t in omega arith

rule_reach : (n : Nonterminal) (r : Rule n) (b : ℕ) → reach (right r) b ≤ after (solid n) (head n) b
rule_reach n r b =
    let f = both_of (nat_lt (reach (right r) 0) (suc (head n))) _ (all_fit n r) in
    let g = both_of (if solid n then solids (right r) else true) (tight (right r) (bound n)) f.1 in
    rule_after (solid n) (right r) (head n) b g.0 (below_of (reach (right r) 0) (head n) f.0)

rule_tight : (n : Nonterminal) (r : Rule n) → IsTrue (tight (right r) (bound n))
rule_tight n r =
    let f = both_of (nat_lt (reach (right r) 0) (suc (head n))) _ (all_fit n r) in
    (both_of (if solid n then solids (right r) else true) (tight (right r) (bound n)) f.1).1

mutual
  starts : (n : Nonterminal) (f : Form n) (b : ℕ) (us : List Kind) → Below b us →
      Below (after (solid n) (head n) b) (spell n f us)
  starts n (made _ r ps) b us h = weaker (reach (right r) b) (after (solid n) (head n) b)
      (spells (right r) ps us) (rule_reach n r b) (all_start (right r) ps b us h)

  all_start : (ss : List Symbol) (ps : Parts ss) (b : ℕ) (us : List Kind) → Below b us →
      Below (reach ss b) (spells ss ps us)
  all_start _ done b us h = h
  all_start _ (taken k ss ps) b us h = one_below (suc (level k)) k (spells ss ps us) (omega arith)
  all_start _ (part d m ss f ps) b us h = starts m f (reach ss b) (spells ss ps us)
      (all_start ss ps b us h)

-- ---- what a production begins with

selector_first : (f : Form Selector) (us : List Kind) →
    by_first Selectors (first (spell Selector f us)) ≡ Some next_selector
selector_first (made _ field (taken _ _ ps)) us = refl
selector_first (made _ index (taken _ _ ps)) us = refl

factor_first : (f : Form Factor) (us : List Kind) →
    (by_first ArgumentList (first (spell Factor f us)) ≡ Some arguments) ×
    (by_first Sign (first (spell Factor f us)) ≡ Some no_sign)
factor_first (made _ name (taken _ _ ps)) us = (refl, refl)
factor_first (made _ (number n) (taken _ _ ps)) us = (refl, refl)
factor_first (made _ parenthesis (taken _ _ ps)) us = (refl, refl)
factor_first (made _ negation (taken _ _ ps)) us = (refl, refl)

term_first : (f : Form Term) (us : List Kind) →
    (by_first ArgumentList (first (spell Term f us)) ≡ Some arguments) ×
    (by_first Sign (first (spell Term f us)) ≡ Some no_sign)
term_first (made _ term (part _ _ ss f ps)) us = factor_first f (spells ss ps us)

simple_first : (f : Form SimpleExpression) (us : List Kind) →
    by_first ArgumentList (first (spell SimpleExpression f us)) ≡ Some arguments
simple_first (made _ simple_expression (part _ _ _ (made _ no_sign done) (part _ _ ss t ps))) us =
    (term_first t (spells ss ps us)).0
simple_first (made _ simple_expression (part _ _ _ (made _ plus_sign (taken _ _ done)) ps)) us =
    refl
simple_first (made _ simple_expression (part _ _ _ (made _ minus_sign (taken _ _ done)) ps)) us =
    refl

expression_first : (f : Form Expression) (us : List Kind) →
    by_first ArgumentList (first (spell Expression f us)) ≡ Some arguments
expression_first (made _ expression (part _ _ ss f ps)) us = simple_first f (spells ss ps us)

action_first : (f : Form Action) (us : List Kind) → by_first Statement (first (spell Action f us)) ≡
    Some statement
action_first (made _ assignment (taken _ _ ps)) us = refl
action_first (made _ call (taken _ _ ps)) us = refl
action_first (made _ if_statement (taken _ _ ps)) us = refl
action_first (made _ while_statement (taken _ _ ps)) us = refl
action_first (made _ repeat_statement (taken _ _ ps)) us = refl

idents_first : (f : Form IdentList) (us : List Kind) → first (spell IdentList f us) ≡ Some Ident
idents_first (made _ ident_list (taken _ _ ps)) us = refl

names_first : (f : Form NameList) (us : List Kind) → first (spell NameList f us) ≡ Some Ident
names_first (made _ name_list (part _ _ ss f ps)) us = idents_first f (spells ss ps us)

section_first : (f : Form Section) (us : List Kind) →
    by_first SectionList (first (spell Section f us)) ≡ Some sections
section_first (made _ section (part _ _ _ (made _ by_value done) (part _ _ ss f ps))) us =
    ap (by_first SectionList) (idents_first f (spells ss ps us))
section_first (made _ section (part _ _ _ (made _ by_var (taken _ _ done)) ps)) us = refl

constant_first : (f : Form Constant) (us : List Kind) → first (spell Constant f us) ≡ Some Ident
constant_first (made _ constant (taken _ _ ps)) us = refl

type_first : (f : Form TypeDeclaration) (us : List Kind) → first (spell TypeDeclaration f us) ≡
    Some Ident
type_first (made _ type_declaration (taken _ _ ps)) us = refl

procedure_first : (f : Form Procedure) (us : List Kind) → first (spell Procedure f us) ≡
    Some KwProcedure
procedure_first (made _ procedure (taken _ _ ps)) us = refl

target_first : (f : Form Selectors) (us : List Kind) →
    behind_name (first (spell Selectors f (Becomes ∷ us))) ≡ Some assignment
target_first (made _ no_selectors done) us = refl
target_first (made _ next_selector (part _ _ _ (made _ field (taken _ _ qs)) ps)) us = refl
target_first (made _ next_selector (part _ _ _ (made _ index (taken _ _ qs)) ps)) us = refl

parameters_first : (f : Form ActualParameters) (us : List Kind) → Below 4 us →
    behind_name (first (spell ActualParameters f us)) ≡ Some call
parameters_first (made _ no_parameters done) us h =
    no_assignment (first us) (absent h Period (lit≤ tt)) (absent h LeftBracket (lit≤ tt))
    (absent h Becomes (lit≤ tt))
parameters_first (made _ parameters (taken _ _ ps)) us h = refl

mul_level : (op : MulOp) → 8 ≤ level (mul_kind op)
mul_level times = lit≤ tt
mul_level _ = lit≤ tt

add_level : (op : AddOp) → 7 ≤ level (add_kind op)
add_level plus = lit≤ tt
add_level _ = lit≤ tt

relation_level : (op : RelationOp) → 6 ≤ level (relation_kind op)
relation_level equal = lit≤ tt
relation_level _ = lit≤ tt

-- each production is the one that its tokens choose
chooses : (n : Nonterminal) (r : Rule n) (ps : Parts (right r)) (ks : List Kind) →
    Below (bound n) ks → choose n (spells (right r) ps ks) ≡ Some r
chooses _ no_selectors done ks h = no_selector (first ks) (absent h Period (lit≤ tt))
    (absent h LeftBracket (lit≤ tt))
chooses _ next_selector (part _ _ ss f ps) ks h = selector_first f (spells ss ps ks)
chooses _ field (taken _ _ ps) ks h = refl
chooses _ index (taken _ _ ps) ks h = refl
chooses _ name (taken _ _ ps) ks h = refl
chooses _ (number n) (taken _ _ ps) ks h = refl
chooses _ parenthesis (taken _ _ ps) ks h = refl
chooses _ negation (taken _ _ ps) ks h = refl
chooses _ no_factors done ks h =
    no_mul_first (first ks) (λ op. absent h (mul_kind op) (mul_level op))
chooses _ (next_factor op) (taken _ _ ps) ks h = mul_first op
chooses _ term ps ks h = refl
chooses _ no_terms done ks h = no_add_first (first ks) (λ op. absent h (add_kind op) (add_level op))
chooses _ (next_term op) (taken _ _ ps) ks h = add_first op
chooses _ no_sign done ks h = no_sign_at (first ks) (absent h Plus (lit≤ tt))
    (absent h Minus (lit≤ tt))
chooses _ plus_sign (taken _ _ ps) ks h = refl
chooses _ minus_sign (taken _ _ ps) ks h = refl
chooses _ simple_expression ps ks h = refl
chooses _ no_comparison done ks h = no_relation_first (first ks)
    (λ op. absent h (relation_kind op) (relation_level op))
chooses _ (comparison op) (taken _ _ ps) ks h = relation_first op
chooses _ expression ps ks h = refl
chooses _ no_arguments done ks h =
    no_argument_at (first ks) (absent h Plus (lit≤ tt)) (absent h Minus (lit≤ tt))
    (absent h Ident (lit≤ tt)) (λ n. absent h (Number n) (lit≤ tt))
    (absent h LeftParen (lit≤ tt)) (absent h Tilde (lit≤ tt))
chooses _ arguments (part _ _ ss f ps) ks h = expression_first f (spells ss ps ks)
chooses _ last_argument done ks h = not_comma (first ks) (absent h Comma (lit≤ tt))
chooses _ next_argument (taken _ _ ps) ks h = refl
chooses _ no_parameters done ks h = not_left_paren (first ks) (absent h LeftParen (lit≤ tt))
chooses _ parameters (taken _ _ ps) ks h = refl
chooses _ arm ps ks h = refl
chooses _ no_elsif done ks h = not_elsif (first ks) (absent h KwElsif (lit≤ tt))
chooses _ next_elsif (taken _ _ ps) ks h = refl
chooses _ arms ps ks h = refl
chooses _ no_else done ks h = not_else (first ks) (absent h KwElse (lit≤ tt))
chooses _ otherwise (taken _ _ ps) ks h = refl
chooses _ assignment (taken _ _ (part _ _ _ f (taken _ ss ps))) ks h =
    target_first f (spells ss ps ks)
chooses _ call (taken _ _ (part _ _ _ f done)) ks h = parameters_first f ks h
chooses _ if_statement (taken _ _ ps) ks h = refl
chooses _ while_statement (taken _ _ ps) ks h = refl
chooses _ repeat_statement (taken _ _ ps) ks h = refl
chooses _ empty_statement done ks h = no_statement_at (first ks) (absent h Ident (lit≤ tt))
    (absent h KwIf (lit≤ tt)) (absent h KwWhile (lit≤ tt)) (absent h KwRepeat (lit≤ tt))
chooses _ statement (part _ _ ss f ps) ks h = action_first f (spells ss ps ks)
chooses _ last_statement done ks h = no_statement_first (first ks) (absent h Semicolon (lit≤ tt))
chooses _ next_statement (taken _ _ ps) ks h = refl
chooses _ statement_sequence ps ks h = refl
chooses _ last_ident done ks h = no_ident_first (first ks) (absent h Comma (lit≤ tt))
chooses _ next_ident (taken _ _ ps) ks h = refl
chooses _ ident_list ps ks h = refl
chooses _ name_list ps ks h = refl
chooses _ empty_field_list done ks h = no_list_first (first ks) (absent h Ident (lit≤ tt))
chooses _ field_list (part _ _ ss f ps) ks h =
    ap (by_first FieldList) (names_first f (spells ss ps ks))
chooses _ last_field_list done ks h = no_field_first (first ks) (absent h Semicolon (lit≤ tt))
chooses _ next_field_list (taken _ _ ps) ks h = refl
chooses _ field_sequence ps ks h = refl
chooses _ type_name (taken _ _ ps) ks h = refl
chooses _ array (taken _ _ ps) ks h = refl
chooses _ record_type (taken _ _ ps) ks h = refl
chooses _ by_value done ks h = by_value_first (first ks) (absent h KwVar (lit≤ tt))
chooses _ by_var (taken _ _ ps) ks h = refl
chooses _ section ps ks h = refl
chooses _ last_section done ks h = no_section_first (first ks) (absent h Semicolon (lit≤ tt))
chooses _ next_section (taken _ _ ps) ks h = refl
chooses _ no_sections done ks h = no_section_at (first ks) (absent h KwVar (lit≤ tt))
    (absent h Ident (lit≤ tt))
chooses _ sections (part _ _ ss f ps) ks h = section_first f (spells ss ps ks)
chooses _ no_formals done ks h = no_formals_first (first ks) (absent h LeftParen (lit≤ tt))
chooses _ formals (taken _ _ ps) ks h = refl
chooses _ procedure ps ks h = refl
chooses _ no_procedures done ks h = not_procedure (first ks) (absent h KwProcedure (lit≤ tt))
chooses _ next_procedure (part _ _ ss f ps) ks h =
    ap (by_first Procedures) (procedure_first f (spells ss ps ks))
chooses _ constant ps ks h = refl
chooses _ last_constant done ks h = no_constant_first (first ks) (absent h Ident (lit≤ tt))
chooses _ next_constant (part _ _ ss f ps) ks h =
    ap (by_first ConstantList) (constant_first f (spells ss ps ks))
chooses _ no_constants done ks h = not_const (first ks) (absent h KwConst (lit≤ tt))
chooses _ constants (taken _ _ ps) ks h = refl
chooses _ type_declaration ps ks h = refl
chooses _ last_type done ks h = no_type_first (first ks) (absent h Ident (lit≤ tt))
chooses _ next_type (part _ _ ss f ps) ks h =
    ap (by_first TypeList) (type_first f (spells ss ps ks))
chooses _ no_types done ks h = not_type (first ks) (absent h KwType (lit≤ tt))
chooses _ types (taken _ _ ps) ks h = refl
chooses _ last_variables done ks h = no_variable_first (first ks) (absent h Ident (lit≤ tt))
chooses _ next_variables (part _ _ ss f ps) ks h =
    ap (by_first VariableList) (names_first f (spells ss ps ks))
chooses _ no_variables done ks h = not_var (first ks) (absent h KwVar (lit≤ tt))
chooses _ variables (taken _ _ ps) ks h = refl
chooses _ declarations ps ks h = refl
chooses _ no_body done ks h = not_begin (first ks) (absent h KwBegin (lit≤ tt))
chooses _ body (taken _ _ ps) ks h = refl
chooses _ a_module ps ks h = refl

by_value_ends : (f : Form ByVar) (g : Form IdentList) (us : List Kind) →
    Ends ByVar f (spell IdentList g us)
by_value_ends (made _ by_value done) g us = (ap (by_first ByVar) (idents_first g us), tt)
by_value_ends (made _ by_var (taken _ _ done)) g us = (refl, tt)

mutual
  settles : (n : Nonterminal) (f : Form n) (ks : List Kind) → Below (bound n) ks → Ends n f ks
  settles n (made _ r ps) ks h =
      (chooses n r ps ks h, all_settle (right r) (bound n) (rule_tight n r) ps ks h)

  all_settle : (ss : List Symbol) (b : ℕ) → IsTrue (tight ss b) → (ps : Parts ss) (ks : List Kind) →
      Below b ks → Follow ss ps ks
  all_settle _ b t done ks h = tt
  all_settle _ b t (taken k ss ps) ks h = all_settle ss b t ps ks h
  all_settle _ b t (part d ByVar _ f (part d' IdentList ss g ps)) ks h = (
    by_value_ends f g (spells ss ps ks),
    all_settle (phrase d' IdentList ∷ ss) b t
        (part d' IdentList ss g ps) ks h,
  )
  all_settle _ b t (part d m ss f ps) ks h =
      let u = both_of (nat_lt (reach ss b) (suc (bound m))) (tight ss b) t in (
        settles m f (spells ss ps ks)
            (weaker (reach ss b) (bound m) (spells ss ps ks) (below_of (reach ss b) (bound m) u.0)
            (all_start ss ps b ks h)),
        all_settle ss b u.1 ps ks h,
      )

-- where nothing stands behind it
pub settled : (n : Nonterminal) (f : Form n) → Ends n f []
settled n f = settles n f [] (none_below (bound n))
