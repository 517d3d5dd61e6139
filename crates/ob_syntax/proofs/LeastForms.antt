-- A form of each nonterminal that nests nothing, to finish an incomplete text with.
use Rattle.std.proofs.Common.{◌≡◌, ℕ, ◌≤◌, max, List, [], ◌∷◌, refl, ap₂, arith, pos, lit≤}
use Rattle.ob_syntax.specs.Grammar.{Nonterminal, Symbol, token, phrase, level, deeper, inner}
use Rattle.ob_syntax.specs.Grammar.{Nesting, Selectors, Selector, Factor, Factors, Term, Terms}
use Rattle.ob_syntax.specs.Grammar.{Sign, SimpleExpression, Comparison, Expression, ArgumentList}
use Rattle.ob_syntax.specs.Grammar.{Arguments, ActualParameters, Arm, Elsifs, Arms, Else, Action}
use Rattle.ob_syntax.specs.Grammar.{Statement, Statements, StatementSequence, Idents, IdentList}
use Rattle.ob_syntax.specs.Grammar.{NameList, FieldList, FieldLists, FieldSequence, TypeExpression}
use Rattle.ob_syntax.specs.Grammar.{ByVar, Section, Sections, SectionList, FormalParameters}
use Rattle.ob_syntax.specs.Grammar.{Procedure, Procedures, Constant, ConstantList, Constants}
use Rattle.ob_syntax.specs.Grammar.{TypeDeclaration, TypeList, Types, VariableList, Variables}
use Rattle.ob_syntax.specs.Grammar.{Declarations, Body, Module, no_selectors, field, number}
use Rattle.ob_syntax.specs.Grammar.{no_factors, term, no_terms, no_sign, simple_expression}
use Rattle.ob_syntax.specs.Grammar.{no_comparison, expression, no_arguments, last_argument}
use Rattle.ob_syntax.specs.Grammar.{no_parameters, arm, no_elsif, arms, no_else, call}
use Rattle.ob_syntax.specs.Grammar.{empty_statement, last_statement, statement_sequence, last_ident}
use Rattle.ob_syntax.specs.Grammar.{ident_list, name_list, empty_field_list, last_field_list}
use Rattle.ob_syntax.specs.Grammar.{field_sequence, type_name, by_value, section, last_section}
use Rattle.ob_syntax.specs.Grammar.{no_sections, no_formals, procedure, no_procedures, constant}
use Rattle.ob_syntax.specs.Grammar.{last_constant, no_constants, type_declaration, last_type}
use Rattle.ob_syntax.specs.Grammar.{no_types, last_variables, no_variables, declarations, no_body}
use Rattle.ob_syntax.specs.Grammar.{a_module}
use Rattle.ob_syntax.specs.Forms.{Form, Parts, made, done, taken, part, depth, depths, nest}

abbrev least_factor : Form Factor
least_factor = made Factor (number (pos 0)) (taken _ _ done)

abbrev least_term : Form Term
least_term = made Term term
    (part _ _ _ least_factor (part _ _ _ (made Factors no_factors done) done))

abbrev least_simple : Form SimpleExpression
least_simple = made SimpleExpression simple_expression
    (part _ _ _ (made Sign no_sign done)
    (part _ _ _ least_term (part _ _ _ (made Terms no_terms done) done)))

abbrev least_expression : Form Expression
least_expression = made Expression expression
    (part _ _ _ least_simple (part _ _ _ (made Comparison no_comparison done) done))

abbrev least_idents : Form IdentList
least_idents = made IdentList ident_list (taken _ _ (part _ _ _ (made Idents last_ident done) done))

abbrev least_type : Form TypeExpression
least_type = made TypeExpression type_name (taken _ _ done)

abbrev least_names : Form NameList
least_names = made NameList name_list
    (part _ _ _ least_idents (taken _ _ (part _ _ _ least_type done)))

abbrev least_declarations : Form Declarations
least_declarations = made Declarations declarations
    (part _ _ _ (made Constants no_constants done)
    (part _ _ _ (made Types no_types done)
    (part _ _ _ (made Variables no_variables done)
    (part _ _ _ (made Procedures no_procedures done) done))))

abbrev least_body : Form Body
least_body = made Body no_body done

abbrev least_sequence : Form StatementSequence
least_sequence = made StatementSequence statement_sequence
    (part _ _ _ (made Statement empty_statement done)
    (part _ _ _ (made Statements last_statement done) done))

abbrev least_arm : Form Arm
least_arm = made Arm arm (part _ _ _ least_expression (taken _ _ (part _ _ _ least_sequence done)))

abbrev pub least : (n : Nonterminal) → Form n
least Selectors = made Selectors no_selectors done
least Selector = made Selector field (taken _ _ (taken _ _ done))
least Factor = least_factor
least Factors = made Factors no_factors done
least Term = least_term
least Terms = made Terms no_terms done
least Sign = made Sign no_sign done
least SimpleExpression = least_simple
least Comparison = made Comparison no_comparison done
least Expression = least_expression
least ArgumentList = made ArgumentList no_arguments done
least Arguments = made Arguments last_argument done
least ActualParameters = made ActualParameters no_parameters done
least Arm = least_arm
least Arms = made Arms arms (part _ _ _ least_arm (part _ _ _ (made Elsifs no_elsif done) done))
least Elsifs = made Elsifs no_elsif done
least Else = made Else no_else done
least Action = made Action call
    (taken _ _ (part _ _ _ (made ActualParameters no_parameters done) done))
least Statement = made Statement empty_statement done
least Statements = made Statements last_statement done
least StatementSequence = least_sequence
least Idents = made Idents last_ident done
least IdentList = least_idents
least NameList = least_names
least FieldList = made FieldList empty_field_list done
least FieldLists = made FieldLists last_field_list done
least FieldSequence = made FieldSequence field_sequence
    (part _ _ _ (made FieldList empty_field_list done)
    (part _ _ _ (made FieldLists last_field_list done) done))
least TypeExpression = least_type
least ByVar = made ByVar by_value done
least Section = made Section section
    (part _ _ _ (made ByVar by_value done)
    (part _ _ _ least_idents (taken _ _ (part _ _ _ least_type done))))
least Sections = made Sections last_section done
least SectionList = made SectionList no_sections done
least FormalParameters = made FormalParameters no_formals done
least Procedure = made Procedure procedure
    (taken _ _ (taken _ _ (part _ _ _ (made FormalParameters no_formals done)
    (taken _ _ (part _ _ _ least_declarations
    (part _ _ _ least_body (taken _ _ (taken _ _ done))))))))
least Procedures = made Procedures no_procedures done
least Constant = made Constant constant (taken _ _ (taken _ _ (part _ _ _ least_expression done)))
least ConstantList = made ConstantList last_constant done
least Constants = made Constants no_constants done
least TypeDeclaration = made TypeDeclaration type_declaration
    (taken _ _ (taken _ _ (part _ _ _ least_type done)))
least TypeList = made TypeList last_type done
least Types = made Types no_types done
least VariableList = made VariableList last_variables done
least Variables = made Variables no_variables done
least Declarations = least_declarations
least Body = least_body
least Module = made Module a_module
    (taken _ _ (taken _ _ (taken _ _
    (part _ _ _ least_declarations
    (part _ _ _ least_body (taken _ _ (taken _ _ (taken _ _ done))))))))

-- how many levels each form has at least
abbrev pub base : Nonterminal → ℕ
base Arm = 1
base Arms = 1
base _ = 0

pub least_flat : (n : Nonterminal) → depth n (least n) ≡ base n
least_flat Selectors = refl
least_flat _ = refl

abbrev pub least_parts : (ss : List Symbol) → Parts ss
least_parts [] = done
least_parts (token k ∷ ss) = taken k ss (least_parts ss)
least_parts (phrase d m ∷ ss) = part d m ss (least m) (least_parts ss)

-- how many levels each form of these symbols has at least
abbrev pub floor : List Symbol → ℕ
floor [] = 0
floor (token k ∷ ss) = floor ss
floor (phrase d m ∷ ss) = max (nest d (base m)) (floor ss)

pub nest_more : (d : Nesting) (a b : ℕ) → a ≤ b → nest d a ≤ nest d b
nest_more level a b h = h
nest_more deeper a b h = omega arith
nest_more inner a b h = omega arith

pub least_deep : (ss : List Symbol) → depths ss (least_parts ss) ≡ floor ss
least_deep [] = refl
least_deep (token k ∷ ss) = least_deep ss
least_deep (phrase d m ∷ ss) = ap₂ (λ a b. max (nest d a) b) (least_flat m) (least_deep ss)

arm_base : (f : Form Arm) → 1 ≤ depth Arm f
arm_base (made _ arm (part _ _ _ e (taken _ _ (part _ m _ ss ps)))) = omega arith

pub base_least : (n : Nonterminal) (f : Form n) → base n ≤ depth n f
base_least Arm f = arm_base f
base_least Arms (made _ arms (part _ _ _ a ps)) = let h = arm_base a in omega arith
base_least _ f = omega arith

pub floor_least : (ss : List Symbol) (ps : Parts ss) → floor ss ≤ depths ss ps
floor_least _ done = lit≤ tt
floor_least _ (taken k ss ps) = floor_least ss ps
floor_least _ (part d m ss f ps) = let a = nest_more d (base m) (depth m f) (base_least m f) in
    let b = floor_least ss ps in omega arith
