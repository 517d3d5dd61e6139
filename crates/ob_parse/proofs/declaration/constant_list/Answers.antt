use Rattle.std.proofs.Common.{refl, ap, sym, arith, lit≤, append-nil}
use Rattle.ob_syntax.specs.Grammar.{ConstantList, last_constant, next_constant}
use Rattle.ob_syntax.specs.ChosenRule.{by_first}
use Rattle.ob_parse.specs.declared.cursor.ParseFault.TheVariants.{TooDeep}
use Rattle.ob_parse.proofs.Choices.{no_constant_first}
use Rattle.ob_parse.proofs.ItemsAsLists.{put}
use Rattle.ob_parse.proofs.PhraseUnderway.{after_phrase, as_deep, one_deeper, phrase_fails, begun}
use Rattle.ob_parse.proofs.PhraseUnderway.{again, rewrap}
use Rattle.ob_parse.proofs.PhraseSteps.{chosen, at, opens, ◌▹◌, closed_as, lacks, fails, no_room}
use Rattle.ob_parse.proofs.declaration.constant_list.Goals as goal

pub loop-all-init : goal.loop-all-init
loop-all-init c =
    rw c.new-all.ensures (begun ConstantList _ _)

pub returns-then-room-eq0 : goal.returns-then-room-eq0
returns-then-room-eq0 c =
    let is = ap (by_first ConstantList) c.loop-all-test.ensures in
    phrase_fails c.loop-all.invariant (as_deep _) (omega arith) _ (TooDeep _)
    (no_room next_constant (chosen ConstantList is) is (omega arith) (lit≤ tt) (lit≤ tt))

pub returns-in_err-next : goal.returns-in_err-next
returns-in_err-next c =
    fails (again c.loop-all.invariant (opens next_constant (at ConstantList refl
    c.loop-all-test.ensures))) (one_deeper _ _ (omega arith)) (omega arith) _ _ _
    c.in_err-next.ensures c.from_residual.ensures.1

pub returns-in_err-expect : goal.returns-in_err-expect
returns-in_err-expect c =
    lacks (again c.loop-all.invariant (after_phrase (opens next_constant (at ConstantList refl
    c.loop-all-test.ensures)) (one_deeper _ _ (omega arith)) c.in_ok-next.ensures)) (omega arith) _
    c.in_err-expect.ensures c.from_residual-in_err-expect.ensures.1

pub loop-all-preserved : goal.loop-all-preserved
loop-all-preserved c =
    rewrap _ (again c.loop-all.invariant (after_phrase (opens next_constant (at ConstantList refl
    c.loop-all-test.ensures)) (one_deeper _ _ (omega arith)) c.in_ok-next.ensures
    ▹ c.in_ok-expect.ensures)) (λ j v. put _ _ _ _ c.in_ok-push.ensures.ok)

pub returns : goal.returns
returns c =
    closed_as (again c.loop-all.invariant (opens last_constant (chosen ConstantList
    (no_constant_first _ c.loop-all-test.ensures)))) refl (sym (append-nil _))
