use Rattle.std.proofs.Common.{refl, ap, sym, arith, lit≤, append-nil}
use Rattle.ob_syntax.specs.Grammar.{Procedures, declarations, next_procedure, no_procedures}
use Rattle.ob_syntax.specs.Grammar.{procedure}
use Rattle.ob_syntax.specs.ChosenRule.{by_first}
use Rattle.ob_parse.specs.declared.cursor.ParseFault.TheVariants.{TooDeep}
use Rattle.ob_parse.proofs.Choices.{not_procedure}
use Rattle.ob_parse.proofs.ItemsAsLists.{put}
use Rattle.ob_parse.proofs.PhrasesAdvance.{later}
use Rattle.ob_parse.proofs.PhraseUnderway.{after_phrase, as_deep, one_deeper, closed, phrase_fails}
use Rattle.ob_parse.proofs.PhraseUnderway.{begun, again, rewrap}
use Rattle.ob_parse.proofs.PhraseSteps.{chosen, at, opens, ◌▹◌, ◌▸◌, closed_as, lacks, fails}
use Rattle.ob_parse.proofs.PhraseSteps.{no_room}
use Rattle.ob_parse.proofs.declaration.+declarations.Goals as goal

pub declarations-returns-in_err-consts : goal.declarations-returns-in_err-consts
declarations-returns-in_err-consts t c =
    fails (opens declarations (λ _ _. refl)) (as_deep _) (omega arith) _ _ _ c.in_err-consts.ensures
    c.from_residual.ensures.1

pub declarations-returns-in_err-types : goal.declarations-returns-in_err-types
declarations-returns-in_err-types t c =
    fails (opens declarations (λ _ _. refl) ▸ c.in_ok-consts.ensures) (as_deep _) (omega arith) _ _
    _ c.in_err-types.ensures c.from_residual-in_err-types.ensures.1

pub declarations-returns-in_err-vars : goal.declarations-returns-in_err-vars
declarations-returns-in_err-vars t c =
    fails (opens declarations (λ _ _. refl) ▸ c.in_ok-consts.ensures ▸ c.in_ok-types.ensures)
    (as_deep _) (omega arith) _ _ _ c.in_err-vars.ensures c.from_residual-in_err-vars.ensures.1

pub declarations-returns-in_err-procs : goal.declarations-returns-in_err-procs
declarations-returns-in_err-procs t c =
    fails (opens declarations (λ _ _. refl) ▸ c.in_ok-consts.ensures ▸ c.in_ok-types.ensures
    ▸ c.in_ok-vars.ensures) (as_deep _) (omega arith) _ _ _ c.in_err-procs.ensures
    c.from_residual-in_err-procs.ensures.1

pub declarations-returns : goal.declarations-returns
declarations-returns t c =
    closed (opens declarations (λ _ _. refl) ▸ c.in_ok-consts.ensures ▸ c.in_ok-types.ensures
    ▸ c.in_ok-vars.ensures ▸ c.in_ok-procs.ensures)

pub procedures-loop-all-init : goal.procedures-loop-all-init
procedures-loop-all-init t c =
    rw c.new-all.ensures (begun Procedures _ _)

pub procedures-returns-then-room-eq0 : goal.procedures-returns-then-room-eq0
procedures-returns-then-room-eq0 t c =
    let is = ap (by_first Procedures) c.loop-all-test.ensures in
    phrase_fails c.loop-all.invariant (as_deep _) (omega arith) _ (TooDeep _)
    (no_room next_procedure (chosen Procedures is) is (omega arith) (lit≤ tt) (lit≤ tt))

pub procedures-returns-in_err-next : goal.procedures-returns-in_err-next
procedures-returns-in_err-next t c =
    fails (again c.loop-all.invariant (opens next_procedure (at Procedures refl
    c.loop-all-test.ensures))) (one_deeper _ _ (omega arith)) (omega arith) _ _ _
    c.in_err-next.ensures c.from_residual.ensures.1

pub procedures-returns-in_err-expect : goal.procedures-returns-in_err-expect
procedures-returns-in_err-expect t c =
    lacks (again c.loop-all.invariant (after_phrase (opens next_procedure (at Procedures refl
    c.loop-all-test.ensures)) (one_deeper _ _ (omega arith)) c.in_ok-next.ensures)) (omega arith) _
    c.in_err-expect.ensures c.from_residual-in_err-expect.ensures.1

pub procedures-loop-all-preserved : goal.procedures-loop-all-preserved
procedures-loop-all-preserved t c =
    rewrap _ (again c.loop-all.invariant (after_phrase (opens next_procedure (at Procedures refl
    c.loop-all-test.ensures)) (one_deeper _ _ (omega arith)) c.in_ok-next.ensures
    ▹ c.in_ok-expect.ensures)) (λ j v. put _ _ _ _ c.in_ok-push.ensures.ok)

pub procedures-returns : goal.procedures-returns
procedures-returns t c =
    closed_as (again c.loop-all.invariant (opens no_procedures (chosen Procedures (not_procedure _
    c.loop-all-test.ensures)))) refl (sym (append-nil _))

pub procedure-returns-in_err-expect : goal.procedure-returns-in_err-expect
procedure-returns-in_err-expect t c =
    lacks (opens procedure (λ _ _. refl)) (omega arith) _ c.in_err-expect.ensures
    c.from_residual.ensures.1

pub procedure-returns-in_err-expect-2 : goal.procedure-returns-in_err-expect-2
procedure-returns-in_err-expect-2 t c =
    lacks (opens procedure (λ _ _. refl) ▹ c.in_ok-expect.ensures) (omega arith) _
    c.in_err-expect-2.ensures c.from_residual-in_err-expect-2.ensures.1

pub procedure-returns-in_err-params : goal.procedure-returns-in_err-params
procedure-returns-in_err-params t c =
    fails (opens procedure (λ _ _. refl) ▹ c.in_ok-expect.ensures ▹ c.in_ok-expect-2.ensures)
    (as_deep _) (omega arith) _ _ _ c.in_err-params.ensures c.from_residual-in_err-params.ensures.1

pub procedure-returns-in_err-expect-3 : goal.procedure-returns-in_err-expect-3
procedure-returns-in_err-expect-3 t c =
    lacks (opens procedure (λ _ _. refl) ▹ c.in_ok-expect.ensures ▹ c.in_ok-expect-2.ensures
    ▸ c.in_ok-params.ensures) (omega arith) _ c.in_err-expect-3.ensures
    c.from_residual-in_err-expect-3.ensures.1

pub procedure-returns-in_err-decls : goal.procedure-returns-in_err-decls
procedure-returns-in_err-decls t c =
    fails (opens procedure (λ _ _. refl) ▹ c.in_ok-expect.ensures ▹ c.in_ok-expect-2.ensures
    ▸ c.in_ok-params.ensures ▹ c.in_ok-expect-3.ensures) (as_deep _) (omega arith) _ _ _
    c.in_err-decls.ensures c.from_residual-in_err-decls.ensures.1

pub procedure-returns-in_err-body : goal.procedure-returns-in_err-body
procedure-returns-in_err-body t c =
    fails (opens procedure (λ _ _. refl) ▹ c.in_ok-expect.ensures ▹ c.in_ok-expect-2.ensures
    ▸ c.in_ok-params.ensures ▹ c.in_ok-expect-3.ensures ▸ c.in_ok-decls.ensures) (as_deep _)
    (omega arith) _ _ _ c.in_err-body.ensures c.from_residual-in_err-body.ensures.1

pub procedure-returns-in_err-expect-4 : goal.procedure-returns-in_err-expect-4
procedure-returns-in_err-expect-4 t c =
    lacks (opens procedure (λ _ _. refl) ▹ c.in_ok-expect.ensures ▹ c.in_ok-expect-2.ensures
    ▸ c.in_ok-params.ensures ▹ c.in_ok-expect-3.ensures ▸ c.in_ok-decls.ensures
    ▸ c.in_ok-body.ensures) (omega arith) _ c.in_err-expect-4.ensures
    c.from_residual-in_err-expect-4.ensures.1

pub procedure-returns-in_err-expect-5 : goal.procedure-returns-in_err-expect-5
procedure-returns-in_err-expect-5 t c =
    lacks (opens procedure (λ _ _. refl) ▹ c.in_ok-expect.ensures ▹ c.in_ok-expect-2.ensures
    ▸ c.in_ok-params.ensures ▹ c.in_ok-expect-3.ensures ▸ c.in_ok-decls.ensures
    ▸ c.in_ok-body.ensures ▹ c.in_ok-expect-4.ensures) (omega arith) _ c.in_err-expect-5.ensures
    c.from_residual-in_err-expect-5.ensures.1

pub procedure-span_from-span-requires : goal.procedure-span_from-span-requires
procedure-span_from-span-requires t c =
    omega (
      arith,
      c.in_ok-expect.ensures.place_is,
      c.in_ok-expect-2.ensures.place_is,
      later
          c.in_ok-params.ensures,
      c.in_ok-expect-3.ensures.place_is,
      later c.in_ok-decls.ensures,
      later
          c.in_ok-body.ensures,
      c.in_ok-expect-4.ensures.place_is,
      c.in_ok-expect-5.ensures.place_is,
    )

pub procedure-returns : goal.procedure-returns
procedure-returns t c =
    rw c.span_from-span.ensures (closed (opens procedure (λ _ _. refl) ▹ c.in_ok-expect.ensures
    ▹ c.in_ok-expect-2.ensures ▸ c.in_ok-params.ensures ▹ c.in_ok-expect-3.ensures
    ▸ c.in_ok-decls.ensures ▸ c.in_ok-body.ensures ▹ c.in_ok-expect-4.ensures
    ▹ c.in_ok-expect-5.ensures))
