use Rattle.std.proofs.Common.{refl, ap, ◌∙◌, sym, arith, lit≤, append-nil}
use Rattle.std.proofs.lemmas.Int.{to_z-of_z}
use mir.Syntax.{w32}
use borrow.Author.Rules.{sfits_of}
use Rattle.ob_syntax.specs.Grammar.{Comparison, Factor, Factors, Selector, Selectors, Terms}
use Rattle.ob_syntax.specs.Grammar.{comparison, expression, field, index, name, negation}
use Rattle.ob_syntax.specs.Grammar.{next_factor, next_selector, next_term, no_comparison}
use Rattle.ob_syntax.specs.Grammar.{no_factors, no_selectors, no_terms, number, parenthesis}
use Rattle.ob_syntax.specs.Grammar.{simple_expression, term}
use Rattle.ob_syntax.specs.ChosenRule.{by_first}
use Rattle.ob_parse.proofs.Choices.{no_factor_first, no_selector_first, mul_first, no_mul_first}
use Rattle.ob_parse.proofs.Choices.{add_first, no_add_first, relation_first, no_relation_first}
use Rattle.ob_parse.proofs.ItemsAsLists.{put}
use Rattle.ob_parse.proofs.PhrasesAdvance.{later, factor_later, term_later, simple_later}
use Rattle.ob_parse.proofs.PhrasesAdvance.{selector_shorter}
use Rattle.ob_parse.proofs.PhraseUnderway.{after_phrase, as_deep, one_deeper, closed, refused}
use Rattle.ob_parse.proofs.PhraseUnderway.{begun, again, rewrap, roomier}
use Rattle.ob_parse.proofs.PhraseSteps.{chosen, on, seen, as_kind, opens, ◌▹◌, ◌▸◌, closed_as}
use Rattle.ob_parse.proofs.PhraseSteps.{lacks, fails, no_room}
use Rattle.ob_parse.proofs.expression.+expression.Goals as goal

-- ---- comparison

pub comparison-returns-in_default : goal.comparison-returns-in_default
comparison-returns-in_default t c =
    closed_as (opens no_comparison (chosen Comparison (no_relation_first _ c.in_default.ensures.1)))
    c.in_default.ensures.0 refl

pub comparison-returns-in_err-right : goal.comparison-returns-in_err-right
comparison-returns-in_err-right t c =
    let e = c.in-Some.ensures in let x = as_kind e.1 e.2 in
    fails (opens (comparison e.0) (on Comparison (relation_first e.0) x) ▹ x) (as_deep _)
    (omega arith) _ _ _ c.in_err-right.ensures c.from_residual.ensures.1

pub comparison-returns : goal.comparison-returns
comparison-returns t c =
    let e = c.in-Some.ensures in let x = as_kind e.1 e.2 in
    rw e.1 (closed (opens (comparison e.0) (on Comparison (relation_first e.0) x) ▹ x
    ▸ c.in_ok-right.ensures))

-- ---- expression

pub expression-returns-in_err-left : goal.expression-returns-in_err-left
expression-returns-in_err-left t c =
    fails (opens expression (λ _ _. refl)) (as_deep _) (omega arith) _ _ _ c.in_err-left.ensures
    c.from_residual.ensures.1

pub expression-returns-in_err-relation : goal.expression-returns-in_err-relation
expression-returns-in_err-relation t c =
    fails (opens expression (λ _ _. refl) ▸ c.in_ok-left.ensures) (as_deep _) (omega arith) _ _ _
    c.in_err-relation.ensures c.from_residual-in_err-relation.ensures.1

pub expression-span_from-span-requires : goal.expression-span_from-span-requires
expression-span_from-span-requires t c =
    omega (arith, simple_later c.in_ok-left.ensures, later c.in_ok-relation.ensures)

pub expression-returns : goal.expression-returns
expression-returns t c =
    rw c.span_from-span.ensures (closed (opens expression (λ _ _. refl) ▸ c.in_ok-left.ensures
    ▸ c.in_ok-relation.ensures))

-- ---- factor

pub factor-returns-in_default : goal.factor-returns-in_default
factor-returns-in_default t c =
    refused Factor _ _ (omega arith) (chosen Factor (ap (by_first Factor) (sym c.peek.ensures
    ∙ c.in_default.is)))

pub factor-returns-in_default-kind : goal.factor-returns-in_default-kind
factor-returns-in_default-kind t c =
    let no = c.in_default-kind in
    refused Factor _ _ (omega arith) (chosen Factor (ap
    (by_first Factor) (sym c.peek.ensures ∙ c.in-Some.is) ∙ no_factor_first _ no.not-Ident
    no.not-Number no.not-LeftParen no.not-Tilde))

pub factor-returns-in_err-selectors-in-Ident : goal.factor-returns-in_err-selectors-in-Ident
factor-returns-in_err-selectors-in-Ident t c =
    let x = c.advance.ensures _ (seen c.peek.ensures c.in-Some.is c.in-Ident.is) in
    fails (opens name (on Factor refl x) ▹ x) (as_deep _) (omega arith) _ _ _
    c.in_err-selectors-in-Ident.ensures c.from_residual.ensures.1

pub factor-returns-in_ok-selectors-in-Ident : goal.factor-returns-in_ok-selectors-in-Ident
factor-returns-in_ok-selectors-in-Ident t c =
    let x = c.advance.ensures _ (seen c.peek.ensures c.in-Some.is c.in-Ident.is) in
    rw c.span_from-span.ensures (closed (opens name (on Factor refl x) ▹ x
    ▸ c.in_ok-selectors-in-Ident.ensures))

pub factor-returns-in-Number : goal.factor-returns-in-Number
factor-returns-in-Number t c =
    let x = c.advance-in-Number.ensures _ (seen c.peek.ensures c.in-Some.is c.in-Number.is) in
    let f = rw (c.in-Some.is, c.in-Number.is) at c.peek.type_inv in rw (
      to_z-of_z w32
          c.in-Number.value (sfits_of f.1.1.1.1.0.1.1.1.1.0.1),
      c.span_from-span-in-Number.ensures,
    )
    (closed (opens (number c.in-Number.value) (on Factor refl x) ▹ x))

pub factor-returns-then-room-eq0 : goal.factor-returns-then-room-eq0
factor-returns-then-room-eq0 t c =
    let is = ap (by_first Factor) (seen c.peek.ensures c.in-Some.is c.in-LeftParen.is) in
    no_room parenthesis (chosen Factor is) is (omega arith) (lit≤ tt) (lit≤ tt)

pub factor-returns-in_err-inner-in-LeftParen : goal.factor-returns-in_err-inner-in-LeftParen
factor-returns-in_err-inner-in-LeftParen t c =
    let x = c.advance-in-LeftParen.ensures _ (seen c.peek.ensures c.in-Some.is c.in-LeftParen.is) in
    fails (opens parenthesis (on Factor refl x) ▹ x) (one_deeper _ _ (omega arith)) (omega arith) _
    _ _ c.in_err-inner-in-LeftParen.ensures c.from_residual-in_err-inner-in-LeftParen.ensures.1

pub factor-returns-in_err-expect-in-LeftParen : goal.factor-returns-in_err-expect-in-LeftParen
factor-returns-in_err-expect-in-LeftParen t c =
    let x = c.advance-in-LeftParen.ensures _ (seen c.peek.ensures c.in-Some.is c.in-LeftParen.is) in
    lacks (after_phrase (opens parenthesis (on Factor refl x) ▹ x) (one_deeper _ _ (omega arith))
    c.in_ok-inner-in-LeftParen.ensures) (omega arith) _ c.in_err-expect-in-LeftParen.ensures
    c.from_residual-in_err-expect-in-LeftParen.ensures.1

pub factor-returns-in_ok-new-in-LeftParen : goal.factor-returns-in_ok-new-in-LeftParen
factor-returns-in_ok-new-in-LeftParen t c =
    let x = c.advance-in-LeftParen.ensures _ (seen c.peek.ensures c.in-Some.is c.in-LeftParen.is) in
    rw (c.span_from-span-in-LeftParen.ensures, c.in_ok-new-in-LeftParen.ensures) (closed
    (after_phrase (opens parenthesis (on Factor refl x) ▹ x) (one_deeper _ _ (omega arith))
    c.in_ok-inner-in-LeftParen.ensures ▹ c.in_ok-expect-in-LeftParen.ensures))

pub factor-returns-then-room-eq0-2 : goal.factor-returns-then-room-eq0-2
factor-returns-then-room-eq0-2 t c =
    let is = ap (by_first Factor) (seen c.peek.ensures c.in-Some.is c.in-Tilde.is) in
    no_room negation (chosen Factor is) is (omega arith) (lit≤ tt) (lit≤ tt)

pub factor-returns-in_err-inner-in-Tilde : goal.factor-returns-in_err-inner-in-Tilde
factor-returns-in_err-inner-in-Tilde t c =
    let x = c.advance-in-Tilde.ensures _ (seen c.peek.ensures c.in-Some.is c.in-Tilde.is) in
    fails (opens negation (on Factor refl x) ▹ x) (one_deeper _ _ (omega arith)) (omega arith) _ _ _
    c.in_err-inner-in-Tilde.ensures c.from_residual-in_err-inner-in-Tilde.ensures.1

pub factor-returns-in_ok-new-in-Tilde : goal.factor-returns-in_ok-new-in-Tilde
factor-returns-in_ok-new-in-Tilde t c =
    let x = c.advance-in-Tilde.ensures _ (seen c.peek.ensures c.in-Some.is c.in-Tilde.is) in
    rw (c.span_from-span-in-Tilde.ensures, c.in_ok-new-in-Tilde.ensures) (closed (after_phrase
    (opens negation (on Factor refl x) ▹ x) (one_deeper _ _ (omega arith))
    c.in_ok-inner-in-Tilde.ensures))

-- ---- factors

pub factors-loop-op-init : goal.factors-loop-op-init
factors-loop-op-init t c =
    rw c.new-rest.ensures (begun Factors _ _)

pub factors-returns-in_err-factor : goal.factors-returns-in_err-factor
factors-returns-in_err-factor t c =
    let e = c.in-Some.ensures in let x = as_kind e.1 e.2 in
    fails (again c.loop-op.invariant (opens (next_factor e.0) (on Factors (mul_first e.0) x) ▹ x))
    (as_deep _) (omega arith) _ _ _ c.in_err-factor.ensures c.from_residual.ensures.1

pub factors-loop-op-preserved : goal.factors-loop-op-preserved
factors-loop-op-preserved t c =
    let e = c.in-Some.ensures in let x = as_kind e.1 e.2 in
    rewrap _ (again c.loop-op.invariant (opens (next_factor e.0) (on Factors (mul_first e.0) x) ▹ x
    ▸ c.in_ok-factor.ensures)) (λ j v. rw (← e.1) (put _ _ _ _ c.in_ok-push.ensures.ok))

pub factors-returns : goal.factors-returns
factors-returns t c =
    closed_as (again c.loop-op.invariant (opens no_factors (chosen Factors (no_mul_first _
    c.in_default.ensures.1)))) c.in_default.ensures.0 (sym (append-nil _))

-- ---- selector

pub selector-returns-in_default : goal.selector-returns-in_default
selector-returns-in_default t c =
    refused Selector _ _ (omega arith) (chosen Selector (ap (by_first Selector) (sym c.peek.ensures
    ∙ c.in_default.is)))

pub selector-returns-in_default-kind : goal.selector-returns-in_default-kind
selector-returns-in_default-kind t c =
    let no = c.in_default-kind in
    refused Selector _ _ (omega arith) (chosen Selector (ap
    (by_first Selector) (sym c.peek.ensures ∙ c.in-Some.is) ∙ no_selector_first _ no.not-Period
    no.not-LeftBracket))

pub selector-returns-in_err-expect-in-Period : goal.selector-returns-in_err-expect-in-Period
selector-returns-in_err-expect-in-Period t c =
    let x = c.advance.ensures _ (seen c.peek.ensures c.in-Some.is c.in-Period.is) in
    lacks (opens field (on Selector refl x) ▹ x) (omega arith) _ c.in_err-expect-in-Period.ensures
    c.from_residual.ensures.1

pub selector-returns-in_ok-expect-in-Period : goal.selector-returns-in_ok-expect-in-Period
selector-returns-in_ok-expect-in-Period t c =
    let x = c.advance.ensures _ (seen c.peek.ensures c.in-Some.is c.in-Period.is) in
    rw c.span_from-span.ensures (closed (opens field (on Selector refl x) ▹ x
    ▹ c.in_ok-expect-in-Period.ensures))

pub selector-returns-then-room-eq0 : goal.selector-returns-then-room-eq0
selector-returns-then-room-eq0 t c =
    let is = ap (by_first Selector) (seen c.peek.ensures c.in-Some.is c.in-LeftBracket.is) in
    no_room index (chosen Selector is) is (omega arith) (lit≤ tt) (lit≤ tt)

pub selector-returns-in_err-index-in-LeftBracket : goal.selector-returns-in_err-index-in-LeftBracket
selector-returns-in_err-index-in-LeftBracket t c =
    let x = c.advance-in-LeftBracket.ensures _ (seen c.peek.ensures c.in-Some.is
    c.in-LeftBracket.is) in
    fails (opens index (on Selector refl x) ▹ x) (one_deeper _ _ (omega arith)) (omega arith) _ _ _
    c.in_err-index-in-LeftBracket.ensures c.from_residual-in_err-index-in-LeftBracket.ensures.1

pub selector-returns-in_err-expect-in-LeftBracket :
    goal.selector-returns-in_err-expect-in-LeftBracket
selector-returns-in_err-expect-in-LeftBracket t c =
    let x = c.advance-in-LeftBracket.ensures _ (seen c.peek.ensures c.in-Some.is
    c.in-LeftBracket.is) in
    lacks (after_phrase (opens index (on Selector refl x) ▹ x) (one_deeper _ _ (omega arith))
    c.in_ok-index-in-LeftBracket.ensures) (omega arith) _ c.in_err-expect-in-LeftBracket.ensures
    c.from_residual-in_err-expect-in-LeftBracket.ensures.1

pub selector-returns-in_ok-expect-in-LeftBracket : goal.selector-returns-in_ok-expect-in-LeftBracket
selector-returns-in_ok-expect-in-LeftBracket t c =
    let x = c.advance-in-LeftBracket.ensures _ (seen c.peek.ensures c.in-Some.is
    c.in-LeftBracket.is) in
    rw c.span_from-span-in-LeftBracket.ensures (closed (after_phrase (opens index
    (on Selector refl x) ▹ x) (one_deeper _ _ (omega arith)) c.in_ok-index-in-LeftBracket.ensures
    ▹ c.in_ok-expect-in-LeftBracket.ensures))

-- ---- selectors

pub selectors-loop-p-init : goal.selectors-loop-p-init
selectors-loop-p-init t c =
    rw c.new-all.ensures (begun Selectors _ _)

pub selectors-returns-in_err-selector : goal.selectors-returns-in_err-selector
selectors-returns-in_err-selector t c =
    fails (again c.loop-p.invariant (opens next_selector (chosen Selectors c.loop-p-test.ensures)))
    (as_deep _) (omega arith) _ _ _ c.in_err-selector.ensures c.from_residual.ensures.1

pub selectors-loop-p-smaller : goal.selectors-loop-p-smaller
selectors-loop-p-smaller t c = selector_shorter c.in_ok-selector.ensures

pub selectors-loop-p-preserved : goal.selectors-loop-p-preserved
selectors-loop-p-preserved t c =
    rewrap _ (again c.loop-p.invariant (opens next_selector (chosen Selectors c.loop-p-test.ensures)
    ▸ c.in_ok-selector.ensures)) (λ j v. put _ _ _ _ c.in_ok-push.ensures.ok)

pub selectors-returns : goal.selectors-returns
selectors-returns t c =
    closed_as (again c.loop-p.invariant (opens no_selectors (chosen Selectors
    c.loop-p-test.ensures))) refl (sym (append-nil _))

-- ---- simple expression

pub simple_expression-returns-in_err-first : goal.simple_expression-returns-in_err-first
simple_expression-returns-in_err-first t c =
    fails (opens simple_expression (λ _ _. refl) ▸ roomier c.sign-sign.ensures _ (omega arith))
    (as_deep _) (omega arith) _ _ _ c.in_err-first.ensures c.from_residual.ensures.1

pub simple_expression-returns-in_err-rest : goal.simple_expression-returns-in_err-rest
simple_expression-returns-in_err-rest t c =
    fails (opens simple_expression (λ _ _. refl) ▸ roomier c.sign-sign.ensures _ (omega arith)
    ▸ c.in_ok-first.ensures) (as_deep _) (omega arith) _ _ _ c.in_err-rest.ensures
    c.from_residual-in_err-rest.ensures.1

pub simple_expression-span_from-span-requires : goal.simple_expression-span_from-span-requires
simple_expression-span_from-span-requires t c =
    omega (
      arith,
      later c.sign-sign.ensures,
      term_later c.in_ok-first.ensures,
      later
          c.in_ok-rest.ensures,
    )

pub simple_expression-returns : goal.simple_expression-returns
simple_expression-returns t c =
    rw c.span_from-span.ensures (closed (opens simple_expression (λ _ _. refl) ▸ roomier
    c.sign-sign.ensures _ (omega arith) ▸ c.in_ok-first.ensures ▸ c.in_ok-rest.ensures))

-- ---- term

pub term-returns-in_err-first : goal.term-returns-in_err-first
term-returns-in_err-first t c =
    fails (opens term (λ _ _. refl)) (as_deep _) (omega arith) _ _ _ c.in_err-first.ensures
    c.from_residual.ensures.1

pub term-returns-in_err-rest : goal.term-returns-in_err-rest
term-returns-in_err-rest t c =
    fails (opens term (λ _ _. refl) ▸ c.in_ok-first.ensures) (as_deep _) (omega arith) _ _ _
    c.in_err-rest.ensures c.from_residual-in_err-rest.ensures.1

pub term-span_from-span-requires : goal.term-span_from-span-requires
term-span_from-span-requires t c =
    omega (arith, factor_later c.in_ok-first.ensures, later c.in_ok-rest.ensures)

pub term-returns : goal.term-returns
term-returns t c =
    rw c.span_from-span.ensures (closed (opens term (λ _ _. refl) ▸ c.in_ok-first.ensures
    ▸ c.in_ok-rest.ensures))

-- ---- terms

pub terms-loop-op-init : goal.terms-loop-op-init
terms-loop-op-init t c =
    rw c.new-rest.ensures (begun Terms _ _)

pub terms-returns-in_err-term : goal.terms-returns-in_err-term
terms-returns-in_err-term t c =
    let e = c.in-Some.ensures in let x = as_kind e.1 e.2 in
    fails (again c.loop-op.invariant (opens (next_term e.0) (on Terms (add_first e.0) x) ▹ x))
    (as_deep _) (omega arith) _ _ _ c.in_err-term.ensures c.from_residual.ensures.1

pub terms-loop-op-preserved : goal.terms-loop-op-preserved
terms-loop-op-preserved t c =
    let e = c.in-Some.ensures in let x = as_kind e.1 e.2 in
    rewrap _ (again c.loop-op.invariant (opens (next_term e.0) (on Terms (add_first e.0) x) ▹ x
    ▸ c.in_ok-term.ensures)) (λ j v. rw (← e.1) (put _ _ _ _ c.in_ok-push.ensures.ok))

pub terms-returns : goal.terms-returns
terms-returns t c =
    closed_as (again c.loop-op.invariant (opens no_terms (chosen Terms (no_add_first _
    c.in_default.ensures.1)))) c.in_default.ensures.0 (sym (append-nil _))
