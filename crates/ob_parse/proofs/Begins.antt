-- What a production begins with that nests deeper.
use Rattle.std.proofs.Common.{◌≡◌, ℕ, ◌≤◌, List, [], ◌∷◌, ◌++◌, Option, Some, refl, ap, ◌∙◌, arith}
use Rattle.ob_syntax.specs.declared.token.Kind.{Kind}
use Rattle.ob_syntax.specs.declared.token.Kind.TheVariants.{Ident, Number, KwArray, KwElse, KwElsif}
use Rattle.ob_syntax.specs.declared.token.Kind.TheVariants.{KwIf, KwProcedure, KwRepeat, KwWhile}
use Rattle.ob_syntax.specs.declared.token.Kind.TheVariants.{Comma, LeftParen, LeftBracket, Tilde}
use Rattle.ob_syntax.specs.declared.token.Kind.TheVariants.{Plus, Minus}
use Rattle.ob_syntax.specs.Grammar.{Nonterminal, Rule, right, Factor, Term, Sign, SimpleExpression}
use Rattle.ob_syntax.specs.Grammar.{Expression, ArgumentList, Action, Statement, term, no_sign}
use Rattle.ob_syntax.specs.Grammar.{plus_sign, minus_sign, simple_expression, expression, name}
use Rattle.ob_syntax.specs.Grammar.{number, index, parenthesis, negation, arguments, next_argument}
use Rattle.ob_syntax.specs.Grammar.{next_elsif, otherwise, call, if_statement, while_statement}
use Rattle.ob_syntax.specs.Grammar.{repeat_statement, statement, field_list, array, next_constant}
use Rattle.ob_syntax.specs.Grammar.{next_type, next_variables, next_procedure}
use Rattle.ob_syntax.specs.Forms.{Form, made, part, depth}
use Rattle.ob_syntax.specs.Derives.{text}
use Rattle.ob_syntax.specs.ChosenRule.{by_first}
use Rattle.ob_syntax.proofs.LeastForms.{least_parts, base, floor}
use Rattle.ob_syntax.proofs.FormTokens.{spell_text}
use Rattle.ob_parse.specs.Reading.{GoesOn}

abbrev pub Begun : Nonterminal → Option Kind → Type 0
Begun n o = (k : Kind) × (o ≡ Some k) × ((d : ℕ) × GoesOn n d (k ∷ []))

-- by a form whose first token it is
by_form : {n : Nonterminal} (f : Form n) {k : Kind} {more : List Kind} → text n f ≡ k ∷ more →
    Begun n (Some k)
by_form {n = n} f {k = k} {more = more} is = (
  k,
  refl,
  (
    depth n f,
    (
      f,
      omega arith,
      more,
      λ ks. spell_text n f ks
          ∙ ap (λ us. us ++ ks) is,
    ),
  ),
)

-- the shortest form of a production
abbrev least_of : {n : Nonterminal} → Rule n → Form n
least_of r = made _ r (least_parts _)

abbrev argument : Rule Sign → Rule Factor → Form ArgumentList
argument s x =
    let signed = made SimpleExpression simple_expression (part _ _ _ (least_of s)
    (part _ _ _ (made Term term (part _ _ _ (least_of x) (least_parts _))) (least_parts _))) in
    made ArgumentList arguments
    (part _ _ _ (made Expression expression (part _ _ _ signed (least_parts _))) (least_parts _))

abbrev action : Rule Action → Form Statement
action r = made Statement statement (part _ _ _ (least_of r) (least_parts _))

-- a production that nests deeper begins with the next token
pub begun : (n : Nonterminal) (r : Rule n) (o : Option Kind) → by_first n o ≡ Some r → base n ≤ 0
    → 1 ≤ floor (right r) → Begun n o
begun _ index (Some LeftBracket) e b f = by_form (least_of index) refl
begun _ index _ e b f = absurd (cc e)
begun _ parenthesis (Some LeftParen) e b f = by_form (least_of parenthesis) refl
begun _ parenthesis _ e b f = absurd (cc e)
begun _ negation (Some Tilde) e b f = by_form (least_of negation) refl
begun _ negation _ e b f = absurd (cc e)
begun _ arguments (Some Plus) e b f = by_form (argument plus_sign name) refl
begun _ arguments (Some Minus) e b f = by_form (argument minus_sign name) refl
begun _ arguments (Some Ident) e b f = by_form (argument no_sign name) refl
begun _ arguments (Some (Number n)) e b f = by_form (argument no_sign (number n)) refl
begun _ arguments (Some LeftParen) e b f = by_form (argument no_sign parenthesis) refl
begun _ arguments (Some Tilde) e b f = by_form (argument no_sign negation) refl
begun _ arguments _ e b f = absurd (cc e)
begun _ next_argument (Some Comma) e b f = by_form (least_of next_argument) refl
begun _ next_argument _ e b f = absurd (cc e)
begun _ next_elsif (Some KwElsif) e b f = by_form (least_of next_elsif) refl
begun _ next_elsif _ e b f = absurd (cc e)
begun _ otherwise (Some KwElse) e b f = by_form (least_of otherwise) refl
begun _ otherwise _ e b f = absurd (cc e)
begun _ if_statement (Some KwIf) e b f = by_form (least_of if_statement) refl
begun _ if_statement _ e b f = absurd (cc e)
begun _ while_statement (Some KwWhile) e b f = by_form (least_of while_statement) refl
begun _ while_statement _ e b f = absurd (cc e)
begun _ repeat_statement (Some KwRepeat) e b f = by_form (least_of repeat_statement) refl
begun _ repeat_statement _ e b f = absurd (cc e)
begun _ statement (Some Ident) e b f = by_form (action call) refl
begun _ statement (Some KwIf) e b f = by_form (action if_statement) refl
begun _ statement (Some KwWhile) e b f = by_form (action while_statement) refl
begun _ statement (Some KwRepeat) e b f = by_form (action repeat_statement) refl
begun _ statement _ e b f = absurd (cc e)
begun _ array (Some KwArray) e b f = by_form (least_of array) refl
begun _ array _ e b f = absurd (cc e)
begun _ field_list (Some Ident) e b f = by_form (least_of field_list) refl
begun _ field_list _ e b f = absurd (cc e)
begun _ next_constant (Some Ident) e b f = by_form (least_of next_constant) refl
begun _ next_constant _ e b f = absurd (cc e)
begun _ next_type (Some Ident) e b f = by_form (least_of next_type) refl
begun _ next_type _ e b f = absurd (cc e)
begun _ next_variables (Some Ident) e b f = by_form (least_of next_variables) refl
begun _ next_variables _ e b f = absurd (cc e)
begun _ next_procedure (Some KwProcedure) e b f = by_form (least_of next_procedure) refl
begun _ next_procedure _ e b f = absurd (cc e)
begun _ _ o e b f = absurd (omega (arith, b, f))
