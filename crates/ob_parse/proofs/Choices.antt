-- Which production a token chooses.
use Rattle.std.proofs.Common.{◌≡◌, ℤ, List, [], ◌∷◌, Some, None, refl, ap, sym, subst}
use Rattle.ob_syntax.specs.declared.token.Kind.{Kind}
use Rattle.ob_syntax.specs.declared.token.Kind.TheVariants.{Ident, Number, KwArray, KwIf, KwRecord}
use Rattle.ob_syntax.specs.declared.token.Kind.TheVariants.{KwRepeat, KwWhile, Period, LeftParen}
use Rattle.ob_syntax.specs.declared.token.Kind.TheVariants.{LeftBracket, Tilde}
use Rattle.ob_syntax.specs.Grammar.{Action, Selector, Factor, TypeExpression, if_statement}
use Rattle.ob_syntax.specs.Grammar.{while_statement, repeat_statement}
use Rattle.ob_syntax.specs.ChosenRule.{first, by_first, choose}
pub use Rattle.ob_syntax.proofs.TokensChoose.{mul_first, no_mul_first, add_first, no_add_first}
pub use Rattle.ob_syntax.proofs.TokensChoose.{relation_first, no_relation_first, no_sign_at}
pub use Rattle.ob_syntax.proofs.TokensChoose.{not_left_paren, no_formals_first, not_comma}
pub use Rattle.ob_syntax.proofs.TokensChoose.{no_ident_first, not_elsif, not_else}
pub use Rattle.ob_syntax.proofs.TokensChoose.{no_statement_first, no_field_first, no_section_first}
pub use Rattle.ob_syntax.proofs.TokensChoose.{no_list_first, no_constant_first, not_const}
pub use Rattle.ob_syntax.proofs.TokensChoose.{no_type_first, not_type, no_variable_first, not_var}
pub use Rattle.ob_syntax.proofs.TokensChoose.{by_value_first, not_procedure, not_begin}

-- ---- what begins nothing

pub no_factor_first : (k : Kind) → (k ≡ Ident → ⊥) → ((n : ℤ) → k ≡ Number n → ⊥) →
    (k ≡ LeftParen → ⊥) → (k ≡ Tilde → ⊥) → by_first Factor (Some k) ≡ None
no_factor_first Ident i n l t = absurd (i refl)
no_factor_first (Number x) i n l t = absurd (n x refl)
no_factor_first LeftParen i n l t = absurd (l refl)
no_factor_first Tilde i n l t = absurd (t refl)
no_factor_first _ i n l t = refl

pub no_selector_first : (k : Kind) → (k ≡ Period → ⊥) → (k ≡ LeftBracket → ⊥) →
    by_first Selector (Some k) ≡ None
no_selector_first Period p l = absurd (p refl)
no_selector_first LeftBracket p l = absurd (l refl)
no_selector_first _ p l = refl

-- ---- what begins nothing of a type or a statement

pub no_type_expression_first : (k : Kind) → (k ≡ Ident → ⊥) → (k ≡ KwArray → ⊥) →
    (k ≡ KwRecord → ⊥) → by_first TypeExpression (Some k) ≡ None
no_type_expression_first Ident i a r = absurd (i refl)
no_type_expression_first KwArray i a r = absurd (a refl)
no_type_expression_first KwRecord i a r = absurd (r refl)
no_type_expression_first _ i a r = refl

-- ---- a statement that is not empty

pub at_if : (next : List Kind) → first next ≡ Some KwIf → choose Action next ≡ Some if_statement
at_if [] e = cc
at_if (k ∷ ks) e = let i : k ≡ KwIf = cc in subst (λ k. choose Action (k ∷ ks) ≡ Some if_statement)
    (sym i) refl

pub at_while : (next : List Kind) → first next ≡ Some KwWhile → choose Action next ≡
    Some while_statement
at_while [] e = cc
at_while (k ∷ ks) e = let i : k ≡ KwWhile = cc in
    subst (λ k. choose Action (k ∷ ks) ≡ Some while_statement) (sym i) refl

pub at_repeat : (next : List Kind) → first next ≡ Some KwRepeat → choose Action next ≡
    Some repeat_statement
at_repeat [] e = cc
at_repeat (k ∷ ks) e = let i : k ≡ KwRepeat = cc in
    subst (λ k. choose Action (k ∷ ks) ≡ Some repeat_statement) (sym i) refl

no_action : (k : Kind) (ks : List Kind) → (k ≡ Ident → ⊥) → (k ≡ KwIf → ⊥) → (k ≡ KwWhile → ⊥) →
    (k ≡ KwRepeat → ⊥) → choose Action (k ∷ ks) ≡ None
no_action Ident ks i f w r = absurd (i refl)
no_action KwIf ks i f w r = absurd (f refl)
no_action KwWhile ks i f w r = absurd (w refl)
no_action KwRepeat ks i f w r = absurd (r refl)
no_action _ ks i f w r = refl

pub no_action_first : (next : List Kind) → (first next ≡ Some Ident → ⊥) →
    (first next ≡ Some KwIf → ⊥) → (first next ≡ Some KwWhile → ⊥) →
    (first next ≡ Some KwRepeat → ⊥) → choose Action next ≡ None
no_action_first [] i f w r = refl
no_action_first (k ∷ ks) i f w r = no_action k ks (λ e. i (ap Some e)) (λ e. f (ap Some e))
    (λ e. w (ap Some e)) (λ e. r (ap Some e))
