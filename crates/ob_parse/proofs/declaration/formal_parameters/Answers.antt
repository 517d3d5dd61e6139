use Rattle.std.proofs.Common.{refl, arith}
use Rattle.ob_syntax.specs.Grammar.{FormalParameters, formals, no_formals}
use Rattle.ob_parse.proofs.Choices.{no_formals_first}
use Rattle.ob_parse.proofs.PhraseUnderway.{as_deep, closed}
use Rattle.ob_parse.proofs.PhraseSteps.{chosen, on, opens, ◌▹◌, ◌▸◌, closed_as, lacks, fails}
use Rattle.ob_parse.proofs.declaration.formal_parameters.Goals as goal

pub returns-then-not-accept : goal.returns-then-not-accept
returns-then-not-accept c =
    closed_as (opens no_formals (chosen FormalParameters (no_formals_first _
    c.if-not-accept.ensures.1))) c.if-not-accept.ensures.0 c.new.ensures

pub returns-in_err-list : goal.returns-in_err-list
returns-in_err-list c =
    fails (opens formals (on FormalParameters refl c.if-not-accept.ensures)
    ▹ c.if-not-accept.ensures) (as_deep _) (omega arith) _ _ _ c.in_err-list.ensures
    c.from_residual.ensures.1

pub returns-in_err-expect : goal.returns-in_err-expect
returns-in_err-expect c =
    lacks (opens formals (on FormalParameters refl c.if-not-accept.ensures)
    ▹ c.if-not-accept.ensures ▸ c.in_ok-list.ensures) (omega arith) _ c.in_err-expect.ensures
    c.from_residual-in_err-expect.ensures.1

pub returns : goal.returns
returns c =
    closed (opens formals (on FormalParameters refl c.if-not-accept.ensures)
    ▹ c.if-not-accept.ensures ▸ c.in_ok-list.ensures ▹ c.in_ok-expect.ensures)
