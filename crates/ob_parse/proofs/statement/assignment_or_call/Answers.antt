use Rattle.std.proofs.Common.{arith}
use Rattle.ob_parse.proofs.AssignmentOrCall.{assigned, called}
use Rattle.ob_parse.proofs.PhraseUnderway.{as_deep, closed}
use Rattle.ob_parse.proofs.PhraseSteps.{lacks, fails, ◌▹◌, ◌▸◌}
use Rattle.ob_parse.proofs.statement.assignment_or_call.Goals as goal

pub returns-in_err-selectors : goal.returns-in_err-selectors
returns-in_err-selectors c =
    fails (assigned _ _ _ (c.advance.ensures _ c.requires) c.if-continues_assignment.ensures)
    (as_deep _) (omega arith) _ _ _ c.in_err-selectors.ensures c.from_residual.ensures.1

pub returns-in_err-expect : goal.returns-in_err-expect
returns-in_err-expect c =
    lacks (assigned _ _ _ (c.advance.ensures _ c.requires) c.if-continues_assignment.ensures
    ▸ c.in_ok-selectors.ensures) (omega arith) _ c.in_err-expect.ensures
    c.from_residual-in_err-expect.ensures.1

pub returns-in_err-value : goal.returns-in_err-value
returns-in_err-value c =
    fails (assigned _ _ _ (c.advance.ensures _ c.requires) c.if-continues_assignment.ensures
    ▸ c.in_ok-selectors.ensures ▹ c.in_ok-expect.ensures) (as_deep _) (omega arith) _ _ _
    c.in_err-value.ensures c.from_residual-in_err-value.ensures.1

pub returns-then-continues_assignment : goal.returns-then-continues_assignment
returns-then-continues_assignment c =
    rw (c.span_from.ensures, c.span_from-span.ensures) (closed (assigned _ _ _
    (c.advance.ensures _ c.requires) c.if-continues_assignment.ensures ▸ c.in_ok-selectors.ensures
    ▹ c.in_ok-expect.ensures ▸ c.in_ok-value.ensures))

pub returns-in_err-arguments : goal.returns-in_err-arguments
returns-in_err-arguments c =
    fails (called _ _ _ (c.advance.ensures _ c.requires) c.if-continues_assignment.ensures)
    (as_deep _) (omega arith) _ _ _ c.in_err-arguments.ensures
    c.from_residual-in_err-arguments.ensures.1

pub returns : goal.returns
returns c =
    rw c.span_from-span-2.ensures (closed (called _ _ _ (c.advance.ensures _ c.requires)
    c.if-continues_assignment.ensures ▸ c.in_ok-arguments.ensures))
