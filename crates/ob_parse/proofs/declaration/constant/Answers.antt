use Rattle.std.proofs.Common.{refl, arith}
use Rattle.ob_syntax.specs.Grammar.{constant}
use Rattle.ob_parse.proofs.PhraseUnderway.{as_deep, closed}
use Rattle.ob_parse.proofs.PhraseSteps.{opens, lacks, fails, ◌▹◌, ◌▸◌}
use Rattle.ob_parse.proofs.declaration.constant.Goals as goal

pub returns-in_err-expect : goal.returns-in_err-expect
returns-in_err-expect c =
    lacks (opens constant (λ _ _. refl)) (omega arith) _ c.in_err-expect.ensures
    c.from_residual.ensures.1

pub returns-in_err-expect-2 : goal.returns-in_err-expect-2
returns-in_err-expect-2 c =
    lacks (opens constant (λ _ _. refl) ▹ c.in_ok-expect.ensures) (omega arith) _
    c.in_err-expect-2.ensures c.from_residual-in_err-expect-2.ensures.1

pub returns-in_err-value : goal.returns-in_err-value
returns-in_err-value c =
    fails (opens constant (λ _ _. refl) ▹ c.in_ok-expect.ensures ▹ c.in_ok-expect-2.ensures)
    (as_deep _) (omega arith) _ _ _ c.in_err-value.ensures c.from_residual-in_err-value.ensures.1

pub returns : goal.returns
returns c =
    closed (opens constant (λ _ _. refl) ▹ c.in_ok-expect.ensures ▹ c.in_ok-expect-2.ensures
    ▸ c.in_ok-value.ensures)
