use Rattle.std.proofs.Common.{refl, arith}
use Rattle.ob_syntax.specs.Grammar.{Body, body, no_body}
use Rattle.ob_parse.proofs.Choices.{not_begin}
use Rattle.ob_parse.proofs.PhraseUnderway.{as_deep, closed}
use Rattle.ob_parse.proofs.PhraseSteps.{chosen, on, opens, ◌▹◌, ◌▸◌, closed_as, fails}
use Rattle.ob_parse.proofs.declaration.body.Goals as goal

pub returns-then-not-accept : goal.returns-then-not-accept
returns-then-not-accept c =
    closed_as (opens no_body (chosen Body (not_begin _ c.if-not-accept.ensures.1)))
    c.if-not-accept.ensures.0 c.new.ensures

pub returns-in_err-body : goal.returns-in_err-body
returns-in_err-body c =
    fails (opens body (on Body refl c.if-not-accept.ensures) ▹ c.if-not-accept.ensures) (as_deep _)
    (omega arith) _ _ _ c.in_err-body.ensures c.from_residual.ensures.1

pub returns : goal.returns
returns c =
    closed (opens body (on Body refl c.if-not-accept.ensures) ▹ c.if-not-accept.ensures
    ▸ c.in_ok-body.ensures)
