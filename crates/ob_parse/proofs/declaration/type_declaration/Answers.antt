use Rattle.std.proofs.Common.{refl, arith}
use Rattle.ob_syntax.specs.Grammar.{type_declaration}
use Rattle.ob_parse.proofs.PhraseUnderway.{as_deep, closed}
use Rattle.ob_parse.proofs.PhraseSteps.{opens, lacks, fails, ◌▹◌, ◌▸◌}
use Rattle.ob_parse.proofs.declaration.type_declaration.Goals as goal

pub returns-in_err-expect : goal.returns-in_err-expect
returns-in_err-expect c =
    lacks (opens type_declaration (λ _ _. refl)) (omega arith) _ c.in_err-expect.ensures
    c.from_residual.ensures.1

pub returns-in_err-expect-2 : goal.returns-in_err-expect-2
returns-in_err-expect-2 c =
    lacks (opens type_declaration (λ _ _. refl) ▹ c.in_ok-expect.ensures) (omega arith) _
    c.in_err-expect-2.ensures c.from_residual-in_err-expect-2.ensures.1

pub returns-in_err-shape : goal.returns-in_err-shape
returns-in_err-shape c =
    fails (opens type_declaration (λ _ _. refl) ▹ c.in_ok-expect.ensures ▹ c.in_ok-expect-2.ensures)
    (as_deep _) (omega arith) _ _ _ c.in_err-shape.ensures c.from_residual-in_err-shape.ensures.1

pub returns : goal.returns
returns c =
    closed (opens type_declaration (λ _ _. refl) ▹ c.in_ok-expect.ensures ▹ c.in_ok-expect-2.ensures
    ▸ c.in_ok-shape.ensures)
