use Rattle.std.proofs.Common.{refl, ap, ◌∙◌, sym, arith, lit≤, append-nil}
use Rattle.ob_syntax.specs.Grammar.{FieldList, FieldLists, TypeExpression, array, empty_field_list}
use Rattle.ob_syntax.specs.Grammar.{field_list, field_sequence, last_field_list, name_list}
use Rattle.ob_syntax.specs.Grammar.{next_field_list, record_type, type_name}
use Rattle.ob_syntax.specs.ChosenRule.{by_first}
use Rattle.ob_parse.proofs.Choices.{no_type_expression_first, no_field_first, no_list_first}
use Rattle.ob_parse.proofs.ItemsAsLists.{put, put_first}
use Rattle.ob_parse.proofs.PhraseUnderway.{after_phrase, as_deep, one_deeper, closed, refused}
use Rattle.ob_parse.proofs.PhraseUnderway.{again, rewrap}
use Rattle.ob_parse.proofs.PhraseSteps.{chosen, at, on, seen, opens, ◌▹◌, ◌▸◌, closed_as, lacks}
use Rattle.ob_parse.proofs.PhraseSteps.{fails, no_room}
use Rattle.ob_parse.proofs.types.+types.Goals as goal

-- ---- names of one type

pub name_list-returns-in_err-names : goal.name_list-returns-in_err-names
name_list-returns-in_err-names t c =
    fails (opens name_list (λ _ _. refl)) (as_deep _) (omega arith) _ _ _ (c.in_err-names.ensures
    c.args.room) c.from_residual.ensures.1

pub name_list-returns-in_err-expect : goal.name_list-returns-in_err-expect
name_list-returns-in_err-expect t c =
    lacks (opens name_list (λ _ _. refl) ▸ (c.in_ok-names.ensures c.args.room)) (omega arith) _
    c.in_err-expect.ensures c.from_residual-in_err-expect.ensures.1

pub name_list-returns-in_err-shape : goal.name_list-returns-in_err-shape
name_list-returns-in_err-shape t c =
    fails (opens name_list (λ _ _. refl) ▸ (c.in_ok-names.ensures c.args.room)
    ▹ c.in_ok-expect.ensures) (as_deep _) (omega arith) _ _ _ c.in_err-shape.ensures
    c.from_residual-in_err-shape.ensures.1

pub name_list-returns : goal.name_list-returns
name_list-returns t c =
    closed (opens name_list (λ _ _. refl) ▸ (c.in_ok-names.ensures c.args.room)
    ▹ c.in_ok-expect.ensures ▸ c.in_ok-shape.ensures)

-- ---- type

pub type_expression-returns-in_default : goal.type_expression-returns-in_default
type_expression-returns-in_default t c =
    refused TypeExpression _ _ (omega arith) (chosen TypeExpression (ap (by_first TypeExpression)
    (sym c.peek.ensures ∙ c.in_default.is)))

pub type_expression-returns-in_default-kind : goal.type_expression-returns-in_default-kind
type_expression-returns-in_default-kind t c =
    let no = c.in_default-kind in
    refused TypeExpression _ _ (omega arith) (chosen TypeExpression
    (ap (by_first TypeExpression) (sym c.peek.ensures ∙ c.in-Some.is) ∙ no_type_expression_first _
    no.not-Ident no.not-KwArray no.not-KwRecord))

pub type_expression-returns-in-Ident : goal.type_expression-returns-in-Ident
type_expression-returns-in-Ident t c =
    let x = c.advance.ensures _ (seen c.peek.ensures c.in-Some.is c.in-Ident.is) in
    rw c.span_from-span.ensures (closed (opens type_name (on TypeExpression refl x) ▹ x))

pub type_expression-returns-then-room-eq0 : goal.type_expression-returns-then-room-eq0
type_expression-returns-then-room-eq0 t c =
    let is = ap (by_first TypeExpression) (seen c.peek.ensures c.in-Some.is c.in-KwArray.is) in
    no_room array (chosen TypeExpression is) is (omega arith) (lit≤ tt) (lit≤ tt)

pub type_expression-returns-in_err-length-in-KwArray :
    goal.type_expression-returns-in_err-length-in-KwArray
type_expression-returns-in_err-length-in-KwArray t c =
    let x = c.advance-in-KwArray.ensures _ (seen c.peek.ensures c.in-Some.is c.in-KwArray.is) in
    fails (opens array (on TypeExpression refl x) ▹ x) (as_deep _) (omega arith) _ _ _
    c.in_err-length-in-KwArray.ensures c.from_residual.ensures.1

pub type_expression-returns-in_err-expect-in-KwArray :
    goal.type_expression-returns-in_err-expect-in-KwArray
type_expression-returns-in_err-expect-in-KwArray t c =
    let x = c.advance-in-KwArray.ensures _ (seen c.peek.ensures c.in-Some.is c.in-KwArray.is) in
    lacks (opens array (on TypeExpression refl x) ▹ x ▸ c.in_ok-length-in-KwArray.ensures)
    (omega arith) _ c.in_err-expect-in-KwArray.ensures
    c.from_residual-in_err-expect-in-KwArray.ensures.1

pub type_expression-returns-in_err-element-in-KwArray :
    goal.type_expression-returns-in_err-element-in-KwArray
type_expression-returns-in_err-element-in-KwArray t c =
    let x = c.advance-in-KwArray.ensures _ (seen c.peek.ensures c.in-Some.is c.in-KwArray.is) in
    fails (opens array (on TypeExpression refl x) ▹ x ▸ c.in_ok-length-in-KwArray.ensures
    ▹ c.in_ok-expect-in-KwArray.ensures) (one_deeper _ _ (omega arith)) (omega arith) _ _ _
    c.in_err-element-in-KwArray.ensures c.from_residual-in_err-element-in-KwArray.ensures.1

pub type_expression-returns-in_ok-owned_element-in-KwArray :
    goal.type_expression-returns-in_ok-owned_element-in-KwArray
type_expression-returns-in_ok-owned_element-in-KwArray t c =
    let x = c.advance-in-KwArray.ensures _ (seen c.peek.ensures c.in-Some.is c.in-KwArray.is) in
    rw (
      c.span_from-span-in-KwArray.ensures,
      c.in_ok-owned_length-in-KwArray.ensures,
      c.in_ok-owned_element-in-KwArray.ensures,
    ) (closed (after_phrase (opens array
    (on TypeExpression refl x) ▹ x ▸ c.in_ok-length-in-KwArray.ensures
    ▹ c.in_ok-expect-in-KwArray.ensures) (one_deeper _ _ (omega arith))
    c.in_ok-element-in-KwArray.ensures))

pub type_expression-returns-in_err-fields-in-KwRecord :
    goal.type_expression-returns-in_err-fields-in-KwRecord
type_expression-returns-in_err-fields-in-KwRecord t c =
    let x = c.advance-in-KwRecord.ensures _ (seen c.peek.ensures c.in-Some.is c.in-KwRecord.is) in
    fails (opens record_type (on TypeExpression refl x) ▹ x) (as_deep _) (omega arith) _ _ _
    c.in_err-fields-in-KwRecord.ensures c.from_residual-in_err-fields-in-KwRecord.ensures.1

pub type_expression-returns-in_err-expect-in-KwRecord :
    goal.type_expression-returns-in_err-expect-in-KwRecord
type_expression-returns-in_err-expect-in-KwRecord t c =
    let x = c.advance-in-KwRecord.ensures _ (seen c.peek.ensures c.in-Some.is c.in-KwRecord.is) in
    lacks (opens record_type (on TypeExpression refl x) ▹ x ▸ c.in_ok-fields-in-KwRecord.ensures)
    (omega arith) _ c.in_err-expect-in-KwRecord.ensures
    c.from_residual-in_err-expect-in-KwRecord.ensures.1

pub type_expression-returns-in_ok-expect-in-KwRecord :
    goal.type_expression-returns-in_ok-expect-in-KwRecord
type_expression-returns-in_ok-expect-in-KwRecord t c =
    let x = c.advance-in-KwRecord.ensures _ (seen c.peek.ensures c.in-Some.is c.in-KwRecord.is) in
    rw c.span_from-span-in-KwRecord.ensures (closed (opens record_type (on TypeExpression refl x)
    ▹ x ▸ c.in_ok-fields-in-KwRecord.ensures ▹ c.in_ok-expect-in-KwRecord.ensures))

-- ---- field lists

pub field_list-returns-then-not-is_next : goal.field_list-returns-then-not-is_next
field_list-returns-then-not-is_next t c =
    closed (opens empty_field_list (chosen FieldList (no_list_first _ c.if-not-is_next.ensures)))

pub field_list-returns-then-room-eq0 : goal.field_list-returns-then-room-eq0
field_list-returns-then-room-eq0 t c =
    let is = ap (by_first FieldList) c.if-not-is_next.ensures in
    no_room field_list (chosen FieldList is) is (omega arith) (lit≤ tt) (lit≤ tt)

pub field_list-returns-in_err-list : goal.field_list-returns-in_err-list
field_list-returns-in_err-list t c =
    fails (opens field_list (at FieldList refl c.if-not-is_next.ensures))
    (one_deeper _ _ (omega arith)) (omega arith) _ _ _ c.in_err-list.ensures
    c.from_residual.ensures.1

pub field_list-returns : goal.field_list-returns
field_list-returns t c =
    closed (after_phrase (opens field_list (at FieldList refl c.if-not-is_next.ensures))
    (one_deeper _ _ (omega arith)) c.in_ok-list.ensures)

-- ---- a sequence of field lists

pub field_sequence-returns-in_err-first : goal.field_sequence-returns-in_err-first
field_sequence-returns-in_err-first t c =
    fails (opens field_sequence (λ _ _. refl)) (as_deep _) (omega arith) _ _ _
    c.in_err-first.ensures c.from_residual.ensures.1

pub field_sequence-loop-p-init : goal.field_sequence-loop-p-init
field_sequence-loop-p-init t c =
    rewrap _ (opens field_sequence (λ _ _. refl) ▸ c.in_ok-first.ensures) (λ j v. put_first _ _ _ _
    c.new-all.ensures c.in_ok-push_some.ensures)

pub field_sequence-returns-in_err-next : goal.field_sequence-returns-in_err-next
field_sequence-returns-in_err-next t c =
    fails (again c.loop-p.invariant (opens next_field_list (on FieldLists refl
    c.loop-p-test.ensures) ▹ c.loop-p-test.ensures)) (as_deep _) (omega arith) _ _ _
    c.in_err-next.ensures c.from_residual-in_err-next.ensures.1

pub field_sequence-loop-p-preserved : goal.field_sequence-loop-p-preserved
field_sequence-loop-p-preserved t c =
    rewrap _ (again c.loop-p.invariant (opens next_field_list (on FieldLists refl
    c.loop-p-test.ensures) ▹ c.loop-p-test.ensures ▸ c.in_ok-next.ensures)) (λ j v. put _ _ _ _
    c.in_ok-push_some-2.ensures)

pub field_sequence-returns : goal.field_sequence-returns
field_sequence-returns t c =
    closed_as (again c.loop-p.invariant (opens last_field_list (chosen FieldLists (no_field_first _
    c.loop-p-test.ensures.1)))) c.loop-p-test.ensures.0 (sym (append-nil _))
