use Rattle.std.proofs.Common.{refl, sym, arith, append-nil}
use Rattle.ob_syntax.specs.Grammar.{SectionList, Sections, last_section, next_section, no_sections}
use Rattle.ob_syntax.specs.Grammar.{sections}
use Rattle.ob_parse.proofs.Choices.{no_section_first}
use Rattle.ob_parse.proofs.ItemsAsLists.{put, put_first}
use Rattle.ob_parse.proofs.PhraseUnderway.{as_deep, again, rewrap}
use Rattle.ob_parse.proofs.PhraseSteps.{chosen, on, opens, ◌▹◌, ◌▸◌, closed_as, fails}
use Rattle.ob_parse.proofs.declaration.section_list.Goals as goal

pub returns-then-not-begins_section : goal.returns-then-not-begins_section
returns-then-not-begins_section c =
    closed_as (opens no_sections (chosen SectionList c.if-not-begins_section.ensures)) refl
    c.new-all.ensures

pub returns-in_err-first : goal.returns-in_err-first
returns-in_err-first c =
    fails (opens sections (chosen SectionList c.if-not-begins_section.ensures)) (as_deep _)
    (omega arith) _ _ _ c.in_err-first.ensures c.from_residual.ensures.1

pub loop-p-init : goal.loop-p-init
loop-p-init c =
    rewrap _ (opens sections (chosen SectionList c.if-not-begins_section.ensures)
    ▸ c.in_ok-first.ensures) (λ j v. put_first _ _ _ _ c.new-all.ensures c.in_ok-push.ensures.ok)

pub returns-in_err-next : goal.returns-in_err-next
returns-in_err-next c =
    fails (again c.loop-p.invariant (opens next_section (on Sections refl c.loop-p-test.ensures)
    ▹ c.loop-p-test.ensures)) (as_deep _) (omega arith) _ _ _ c.in_err-next.ensures
    c.from_residual-in_err-next.ensures.1

pub loop-p-preserved : goal.loop-p-preserved
loop-p-preserved c =
    rewrap _ (again c.loop-p.invariant (opens next_section (on Sections refl c.loop-p-test.ensures)
    ▹ c.loop-p-test.ensures ▸ c.in_ok-next.ensures)) (λ j v. put _ _ _ _ c.in_ok-push-2.ensures.ok)

pub returns : goal.returns
returns c =
    closed_as (again c.loop-p.invariant (opens last_section (chosen Sections (no_section_first _
    c.loop-p-test.ensures.1)))) c.loop-p-test.ensures.0 (sym (append-nil _))
