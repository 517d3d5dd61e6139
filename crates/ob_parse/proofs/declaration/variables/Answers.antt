use Rattle.std.proofs.Common.{refl, arith}
use Rattle.ob_syntax.specs.Grammar.{Variables, no_variables, variables}
use Rattle.ob_parse.proofs.Choices.{not_var}
use Rattle.ob_parse.proofs.PhraseUnderway.{as_deep, closed}
use Rattle.ob_parse.proofs.PhraseSteps.{chosen, on, opens, ◌▹◌, ◌▸◌, closed_as, fails}
use Rattle.ob_parse.proofs.declaration.variables.Goals as goal

pub returns-then-not-accept : goal.returns-then-not-accept
returns-then-not-accept c =
    closed_as (opens no_variables (chosen Variables (not_var _ c.if-not-accept.ensures.1)))
    c.if-not-accept.ensures.0 c.new.ensures

pub returns-in_err-list : goal.returns-in_err-list
returns-in_err-list c =
    fails (opens variables (on Variables refl c.if-not-accept.ensures) ▹ c.if-not-accept.ensures)
    (as_deep _) (omega arith) _ _ _ c.in_err-list.ensures c.from_residual.ensures.1

pub returns : goal.returns
returns c =
    closed (opens variables (on Variables refl c.if-not-accept.ensures) ▹ c.if-not-accept.ensures
    ▸ c.in_ok-list.ensures)
