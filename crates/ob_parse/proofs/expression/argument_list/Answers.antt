use Rattle.std.proofs.Common.{refl, sym, arith, lit≤, append-nil}
use Rattle.ob_syntax.specs.Grammar.{ArgumentList, Arguments, arguments, last_argument}
use Rattle.ob_syntax.specs.Grammar.{next_argument, no_arguments}
use Rattle.ob_parse.proofs.Choices.{not_comma}
use Rattle.ob_parse.proofs.ItemsAsLists.{put, put_first}
use Rattle.ob_parse.proofs.PhraseUnderway.{after_phrase, one_deeper, again, rewrap}
use Rattle.ob_parse.proofs.PhraseSteps.{chosen, on, opens, ◌▹◌, closed_as, fails, no_room}
use Rattle.ob_parse.proofs.expression.argument_list.Goals as goal

pub returns-then-not-begins_expression : goal.returns-then-not-begins_expression
returns-then-not-begins_expression c =
    closed_as (opens no_arguments (chosen ArgumentList c.if-not-begins_expression.ensures)) refl
    c.new-all.ensures

pub returns-then-room-eq0 : goal.returns-then-room-eq0
returns-then-room-eq0 c =
    no_room arguments (chosen ArgumentList c.if-not-begins_expression.ensures)
    c.if-not-begins_expression.ensures (omega arith) (lit≤ tt) (lit≤ tt)

pub returns-in_err-first : goal.returns-in_err-first
returns-in_err-first c =
    fails (opens arguments (chosen ArgumentList c.if-not-begins_expression.ensures))
    (one_deeper _ _ (omega arith)) (omega arith) _ _ _ c.in_err-first.ensures
    c.from_residual.ensures.1

pub loop-p-init : goal.loop-p-init
loop-p-init c =
    rewrap _ (after_phrase (opens arguments (chosen ArgumentList
    c.if-not-begins_expression.ensures)) (one_deeper _ _ (omega arith)) c.in_ok-first.ensures) (λ j
    v. put_first _ _ _ _ c.new-all.ensures c.in_ok-push.ensures.ok)

pub returns-in_err-next : goal.returns-in_err-next
returns-in_err-next c =
    fails (again c.loop-p.invariant (opens next_argument (on Arguments refl c.loop-p-test.ensures)
    ▹ c.loop-p-test.ensures)) (one_deeper _ _ (omega arith)) (omega arith) _ _ _
    c.in_err-next.ensures c.from_residual-in_err-next.ensures.1

pub loop-p-preserved : goal.loop-p-preserved
loop-p-preserved c =
    rewrap _ (again c.loop-p.invariant (after_phrase (opens next_argument (on Arguments refl
    c.loop-p-test.ensures) ▹ c.loop-p-test.ensures) (one_deeper _ _ (omega arith))
    c.in_ok-next.ensures)) (λ j v. put _ _ _ _ c.in_ok-push-2.ensures.ok)

pub returns : goal.returns
returns c =
    closed_as (again c.loop-p.invariant (opens last_argument (chosen Arguments (not_comma _
    c.loop-p-test.ensures.1)))) c.loop-p-test.ensures.0 (sym (append-nil _))
