use Rattle.std.proofs.Common.{◌≡◌, None, refl, ap, ◌∙◌, sym, arith, lit≤, append-nil}
use Rattle.ob_syntax.specs.Grammar.{Action, Else, Elsifs, Statement, Statements, arm, arms}
use Rattle.ob_syntax.specs.Grammar.{empty_statement, if_statement, last_statement, next_elsif}
use Rattle.ob_syntax.specs.Grammar.{next_statement, no_else, no_elsif, otherwise, repeat_statement}
use Rattle.ob_syntax.specs.Grammar.{statement, statement_sequence, while_statement}
use Rattle.ob_syntax.specs.ChosenRule.{first, by_first}
use Rattle.ob_parse.specs.Reading.{left}
use Rattle.ob_parse.proofs.Choices.{at_if, at_while, at_repeat, no_action_first, not_elsif}
use Rattle.ob_parse.proofs.Choices.{not_else, no_statement_first}
use Rattle.ob_parse.proofs.ItemsAsLists.{put, put_first}
use Rattle.ob_parse.proofs.PhrasesAdvance.{later}
use Rattle.ob_parse.proofs.PhraseUnderway.{after_phrase, as_deep, one_deeper, at_least_one, closed}
use Rattle.ob_parse.proofs.PhraseUnderway.{refused, again, rewrap}
use Rattle.ob_parse.proofs.PhraseSteps.{chosen, on, opens, ◌▹◌, ◌▸◌, closed_as, lacks, fails}
use Rattle.ob_parse.proofs.PhraseSteps.{no_room}
use Rattle.ob_parse.proofs.statement.+statements.Goals as goal

-- ---- statement sequence

pub statement_sequence-returns-in_err-first : goal.statement_sequence-returns-in_err-first
statement_sequence-returns-in_err-first t c =
    fails (opens statement_sequence (λ _ _. refl)) (as_deep _) (omega arith) _ _ _
    c.in_err-first.ensures c.from_residual.ensures.1

pub statement_sequence-loop-p-init : goal.statement_sequence-loop-p-init
statement_sequence-loop-p-init t c =
    rewrap _ (opens statement_sequence (λ _ _. refl) ▸ c.in_ok-first.ensures) (λ j v. put_first _ _
    _ _ c.new-all.ensures c.in_ok-push_some.ensures)

pub statement_sequence-returns-in_err-next : goal.statement_sequence-returns-in_err-next
statement_sequence-returns-in_err-next t c =
    fails (again c.loop-p.invariant (opens next_statement (on Statements refl c.loop-p-test.ensures)
    ▹ c.loop-p-test.ensures)) (as_deep _) (omega arith) _ _ _ c.in_err-next.ensures
    c.from_residual-in_err-next.ensures.1

pub statement_sequence-loop-p-preserved : goal.statement_sequence-loop-p-preserved
statement_sequence-loop-p-preserved t c =
    rewrap _ (again c.loop-p.invariant (opens next_statement (on Statements refl
    c.loop-p-test.ensures) ▹ c.loop-p-test.ensures ▸ c.in_ok-next.ensures)) (λ j v. put _ _ _ _
    c.in_ok-push_some-2.ensures)

pub statement_sequence-returns : goal.statement_sequence-returns
statement_sequence-returns t c =
    closed_as (again c.loop-p.invariant (opens last_statement (chosen Statements (no_statement_first
    _ c.loop-p-test.ensures.1)))) c.loop-p-test.ensures.0 (sym (append-nil _))

-- ---- statement

pub statement-returns-then-not-begins_statement : goal.statement-returns-then-not-begins_statement
statement-returns-then-not-begins_statement t c =
    closed (opens empty_statement (chosen Statement c.if-not-begins_statement.ensures))

pub statement-returns-then-room-eq0 : goal.statement-returns-then-room-eq0
statement-returns-then-room-eq0 t c =
    no_room statement (chosen Statement c.if-not-begins_statement.ensures)
    c.if-not-begins_statement.ensures (omega arith) (lit≤ tt) (lit≤ tt)

pub statement-returns-in_err-some : goal.statement-returns-in_err-some
statement-returns-in_err-some t c =
    fails (opens statement (chosen Statement c.if-not-begins_statement.ensures))
    (one_deeper _ _ (omega arith)) (omega arith) _ _ _ c.in_err-some.ensures
    c.from_residual.ensures.1

pub statement-returns : goal.statement-returns
statement-returns t c =
    closed (after_phrase (opens statement (chosen Statement c.if-not-begins_statement.ensures))
    (one_deeper _ _ (omega arith)) c.in_ok-some.ensures)

-- ---- statement that is not empty

pub some_statement-returns-in_default : goal.some_statement-returns-in_default
some_statement-returns-in_default t c =
    let at : first (left c.args.p.now) ≡ None = sym c.peek.ensures ∙ c.in_default.is in
    refused Action _ _ (omega arith)
    (λ next same. no_action_first next (λ e. let z = sym e ∙ same ∙ at in cc)
    (λ e. let z = sym e ∙ same ∙ at in cc) (λ e. let z = sym e ∙ same ∙ at in cc)
    (λ e. let z = sym e ∙ same ∙ at in cc))

pub some_statement-returns-in_default-kind : goal.some_statement-returns-in_default-kind
some_statement-returns-in_default-kind t c =
    let at = sym c.peek.ensures ∙ c.in-Some.is in
    let no = c.in_default-kind in
    refused Action _ _ (omega arith)
    (λ next same. no_action_first next (λ e. let z = sym at ∙ sym same ∙ e in no.not-Ident cc)
    (λ e. let z = sym at ∙ sym same ∙ e in no.not-KwIf cc)
    (λ e. let z = sym at ∙ sym same ∙ e in no.not-KwWhile cc)
    (λ e. let z = sym at ∙ sym same ∙ e in no.not-KwRepeat cc))

-- ---- IF

pub if_statement-returns-then-room-eq0 : goal.if_statement-returns-then-room-eq0
if_statement-returns-then-room-eq0 t c =
    no_room if_statement (λ next same. at_if next (same ∙ c.requires))
    (ap (by_first Action) c.requires) (omega arith) (lit≤ tt) (lit≤ tt)

pub if_statement-returns-in_err-arms : goal.if_statement-returns-in_err-arms
if_statement-returns-in_err-arms t c =
    fails (opens if_statement (λ next same. at_if next (same ∙ c.requires)) ▹ c.advance.ensures _
    c.requires) (as_deep _) (omega arith) _ _ _ c.in_err-arms.ensures c.from_residual.ensures.1

pub if_statement-returns-in_err-others : goal.if_statement-returns-in_err-others
if_statement-returns-in_err-others t c =
    fails (opens if_statement (λ next same. at_if next (same ∙ c.requires)) ▹ c.advance.ensures _
    c.requires ▸ c.in_ok-arms.ensures) (as_deep _) (omega arith) _ _ _ c.in_err-others.ensures
    c.from_residual-in_err-others.ensures.1

pub if_statement-returns-in_err-expect : goal.if_statement-returns-in_err-expect
if_statement-returns-in_err-expect t c =
    lacks (opens if_statement (λ next same. at_if next (same ∙ c.requires)) ▹ c.advance.ensures _
    c.requires ▸ c.in_ok-arms.ensures ▸ c.in_ok-others.ensures) (omega arith) _
    c.in_err-expect.ensures c.from_residual-in_err-expect.ensures.1

pub if_statement-returns : goal.if_statement-returns
if_statement-returns t c =
    rw c.span_from-span.ensures (closed (opens if_statement (λ next same. at_if next
    (same ∙ c.requires)) ▹ c.advance.ensures _ c.requires ▸ c.in_ok-arms.ensures
    ▸ c.in_ok-others.ensures ▹ c.in_ok-expect.ensures))

pub arms-returns-in_err-first : goal.arms-returns-in_err-first
arms-returns-in_err-first t c =
    fails (opens arms (λ _ _. refl)) (as_deep _) (omega arith) _ _ _ c.in_err-first.ensures
    c.from_residual.ensures.1

pub arms-loop-p-init : goal.arms-loop-p-init
arms-loop-p-init t c =
    rewrap _ (opens arms (λ _ _. refl) ▸ c.in_ok-first.ensures) (λ j v. put_first _ _ _ _
    c.new-all.ensures c.in_ok-push.ensures.ok)

pub arms-returns-in_err-next : goal.arms-returns-in_err-next
arms-returns-in_err-next t c =
    fails (again c.loop-p.invariant (opens next_elsif (on Elsifs refl c.loop-p-test.ensures)
    ▹ c.loop-p-test.ensures)) (as_deep _) (omega arith) _ _ _ c.in_err-next.ensures
    c.from_residual-in_err-next.ensures.1

pub arms-loop-p-preserved : goal.arms-loop-p-preserved
arms-loop-p-preserved t c =
    rewrap _ (again c.loop-p.invariant (opens next_elsif (on Elsifs refl c.loop-p-test.ensures)
    ▹ c.loop-p-test.ensures ▸ c.in_ok-next.ensures)) (λ j v. put _ _ _ _ c.in_ok-push-2.ensures.ok)

pub arms-returns : goal.arms-returns
arms-returns t c =
    closed_as (again c.loop-p.invariant (opens no_elsif (chosen Elsifs (not_elsif _
    c.loop-p-test.ensures.1)))) c.loop-p-test.ensures.0 (sym (append-nil _))

pub arm-returns-in_err-test : goal.arm-returns-in_err-test
arm-returns-in_err-test t c =
    fails (opens arm (λ _ _. refl)) (as_deep _) (omega arith) _ _ _ c.in_err-test.ensures
    c.from_residual.ensures.1

pub arm-returns-in_err-expect : goal.arm-returns-in_err-expect
arm-returns-in_err-expect t c =
    lacks (opens arm (λ _ _. refl) ▸ c.in_ok-test.ensures) (omega arith) _ c.in_err-expect.ensures
    c.from_residual-in_err-expect.ensures.1

pub arm-returns-in_err-body : goal.arm-returns-in_err-body
arm-returns-in_err-body t c =
    fails (opens arm (λ _ _. refl) ▸ c.in_ok-test.ensures ▹ c.in_ok-expect.ensures)
    (at_least_one _ (omega arith)) (omega arith) _ _ _ c.in_err-body.ensures
    c.from_residual-in_err-body.ensures.1

pub arm-returns : goal.arm-returns
arm-returns t c =
    closed (after_phrase (opens arm (λ _ _. refl) ▸ c.in_ok-test.ensures ▹ c.in_ok-expect.ensures)
    (at_least_one _ (omega arith)) c.in_ok-body.ensures)

pub otherwise-returns-then-not-accept : goal.otherwise-returns-then-not-accept
otherwise-returns-then-not-accept t c =
    closed_as (opens no_else (chosen Else (not_else _ c.if-not-accept.ensures.1)))
    c.if-not-accept.ensures.0 c.new.ensures

pub otherwise-returns-in_err-body : goal.otherwise-returns-in_err-body
otherwise-returns-in_err-body t c =
    fails (opens otherwise (on Else refl c.if-not-accept.ensures) ▹ c.if-not-accept.ensures)
    (at_least_one _ (omega arith)) (omega arith) _ _ _ c.in_err-body.ensures
    c.from_residual.ensures.1

pub otherwise-returns : goal.otherwise-returns
otherwise-returns t c =
    closed (after_phrase (opens otherwise (on Else refl c.if-not-accept.ensures)
    ▹ c.if-not-accept.ensures) (at_least_one _ (omega arith)) c.in_ok-body.ensures)

-- ---- WHILE

pub while_statement-returns-then-room-eq0 : goal.while_statement-returns-then-room-eq0
while_statement-returns-then-room-eq0 t c =
    no_room while_statement (λ next same. at_while next (same ∙ c.requires))
    (ap (by_first Action) c.requires) (omega arith) (lit≤ tt) (lit≤ tt)

pub while_statement-returns-in_err-test : goal.while_statement-returns-in_err-test
while_statement-returns-in_err-test t c =
    fails (opens while_statement (λ next same. at_while next (same ∙ c.requires))
    ▹ c.advance.ensures _ c.requires) (as_deep _) (omega arith) _ _ _ c.in_err-test.ensures
    c.from_residual.ensures.1

pub while_statement-returns-in_err-expect : goal.while_statement-returns-in_err-expect
while_statement-returns-in_err-expect t c =
    lacks (opens while_statement (λ next same. at_while next (same ∙ c.requires))
    ▹ c.advance.ensures _ c.requires ▸ c.in_ok-test.ensures) (omega arith) _ c.in_err-expect.ensures
    c.from_residual-in_err-expect.ensures.1

pub while_statement-returns-in_err-body : goal.while_statement-returns-in_err-body
while_statement-returns-in_err-body t c =
    fails (opens while_statement (λ next same. at_while next (same ∙ c.requires))
    ▹ c.advance.ensures _ c.requires ▸ c.in_ok-test.ensures ▹ c.in_ok-expect.ensures)
    (at_least_one _ (omega arith)) (omega arith) _ _ _ c.in_err-body.ensures
    c.from_residual-in_err-body.ensures.1

pub while_statement-returns-in_err-expect-2 : goal.while_statement-returns-in_err-expect-2
while_statement-returns-in_err-expect-2 t c =
    lacks (after_phrase (opens while_statement (λ next same. at_while next (same ∙ c.requires))
    ▹ c.advance.ensures _ c.requires ▸ c.in_ok-test.ensures ▹ c.in_ok-expect.ensures)
    (at_least_one _ (omega arith)) c.in_ok-body.ensures) (omega arith) _ c.in_err-expect-2.ensures
    c.from_residual-in_err-expect-2.ensures.1

pub while_statement-returns : goal.while_statement-returns
while_statement-returns t c =
    rw c.span_from-span.ensures (closed (after_phrase (opens while_statement (λ next same. at_while
    next (same ∙ c.requires)) ▹ c.advance.ensures _ c.requires ▸ c.in_ok-test.ensures
    ▹ c.in_ok-expect.ensures) (at_least_one _ (omega arith)) c.in_ok-body.ensures
    ▹ c.in_ok-expect-2.ensures))

-- ---- REPEAT

pub repeat_statement-returns-then-room-eq0 : goal.repeat_statement-returns-then-room-eq0
repeat_statement-returns-then-room-eq0 t c =
    no_room repeat_statement (λ next same. at_repeat next (same ∙ c.requires))
    (ap (by_first Action) c.requires) (omega arith) (lit≤ tt) (lit≤ tt)

pub repeat_statement-returns-in_err-body : goal.repeat_statement-returns-in_err-body
repeat_statement-returns-in_err-body t c =
    fails (opens repeat_statement (λ next same. at_repeat next (same ∙ c.requires))
    ▹ c.advance.ensures _ c.requires) (at_least_one _ (omega arith)) (omega arith) _ _ _
    c.in_err-body.ensures c.from_residual.ensures.1

pub repeat_statement-returns-in_err-expect : goal.repeat_statement-returns-in_err-expect
repeat_statement-returns-in_err-expect t c =
    lacks (after_phrase (opens repeat_statement (λ next same. at_repeat next (same ∙ c.requires))
    ▹ c.advance.ensures _ c.requires) (at_least_one _ (omega arith)) c.in_ok-body.ensures)
    (omega arith) _ c.in_err-expect.ensures c.from_residual-in_err-expect.ensures.1

pub repeat_statement-returns-in_err-condition : goal.repeat_statement-returns-in_err-condition
repeat_statement-returns-in_err-condition t c =
    fails (after_phrase (opens repeat_statement (λ next same. at_repeat next (same ∙ c.requires))
    ▹ c.advance.ensures _ c.requires) (at_least_one _ (omega arith)) c.in_ok-body.ensures
    ▹ c.in_ok-expect.ensures) (as_deep _) (omega arith) _ _ _ c.in_err-condition.ensures
    c.from_residual-in_err-condition.ensures.1

pub repeat_statement-span_from-span-requires : goal.repeat_statement-span_from-span-requires
repeat_statement-span_from-span-requires t c =
    omega (
      arith,
      (c.advance.ensures _ c.requires).place_is,
      later c.in_ok-body.ensures,
      c.in_ok-expect.ensures.place_is,
      later c.in_ok-condition.ensures,
    )

pub repeat_statement-returns : goal.repeat_statement-returns
repeat_statement-returns t c =
    rw c.span_from-span.ensures (closed (after_phrase (opens repeat_statement (λ next same.
    at_repeat next (same ∙ c.requires)) ▹ c.advance.ensures _ c.requires)
    (at_least_one _ (omega arith)) c.in_ok-body.ensures ▹ c.in_ok-expect.ensures
    ▸ c.in_ok-condition.ensures))
