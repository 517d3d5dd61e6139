use Rattle.std.proofs.Common.{refl, sym, arith, append-nil}
use Rattle.ob_syntax.specs.Grammar.{Idents, ident_list, last_ident, next_ident}
use Rattle.ob_parse.proofs.Choices.{no_ident_first}
use Rattle.ob_parse.proofs.ItemsAsLists.{put, put_first}
use Rattle.ob_parse.proofs.PhraseUnderway.{again, rewrap}
use Rattle.ob_parse.proofs.PhraseSteps.{chosen, on, opens, ◌▹◌, closed_as, lacks}
use Rattle.ob_parse.proofs.types.ident_list.Goals as goal

pub returns-in_err-expect : goal.returns-in_err-expect
returns-in_err-expect c =
    λ room. lacks (opens ident_list (λ _ _. refl)) (omega arith) _ c.in_err-expect.ensures
    c.from_residual.ensures.1

pub loop-next-init : goal.loop-next-init
loop-next-init c =
    λ room. rewrap _ (opens ident_list (λ _ _. refl) ▹ c.in_ok-expect.ensures) (λ j v. put_first _ _
    _ _ c.new-names.ensures c.in_ok-push.ensures.ok)

pub returns-in_err-expect-2 : goal.returns-in_err-expect-2
returns-in_err-expect-2 c =
    λ room. lacks (again (c.loop-next.invariant room) (opens next_ident (on Idents refl
    c.loop-next-test.ensures) ▹ c.loop-next-test.ensures)) (omega arith) _ c.in_err-expect-2.ensures
    c.from_residual-in_err-expect-2.ensures.1

pub loop-next-preserved : goal.loop-next-preserved
loop-next-preserved c =
    λ room. rewrap _ (again (c.loop-next.invariant room) (opens next_ident (on Idents refl
    c.loop-next-test.ensures) ▹ c.loop-next-test.ensures ▹ c.in_ok-expect-2.ensures)) (λ j v. put _
    _ _ _ c.in_ok-push-2.ensures.ok)

pub returns : goal.returns
returns c =
    λ room. closed_as (again (c.loop-next.invariant room) (opens last_ident (chosen Idents
    (no_ident_first _ c.loop-next-test.ensures.1)))) c.loop-next-test.ensures.0 (sym (append-nil _))
