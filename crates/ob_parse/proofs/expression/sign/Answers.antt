use Rattle.std.proofs.Common.{Some, refl, ap, ◌∙◌, sym, inl, inr}
use Rattle.ob_syntax.specs.Grammar.{Sign, minus_sign, no_sign, plus_sign}
use Rattle.ob_syntax.specs.ChosenRule.{by_first}
use Rattle.ob_parse.proofs.Choices.{no_sign_at}
use Rattle.ob_parse.proofs.PhraseUnderway.{closed}
use Rattle.ob_parse.proofs.PhraseSteps.{chosen, on, as_kind, opens, ◌▹◌}
use Rattle.ob_parse.proofs.expression.sign.Goals as goal

pub returns-in_err-kind : goal.returns-in_err-kind
returns-in_err-kind c =
    rw c.from_residual.ensures (closed (opens no_sign (chosen Sign (ap (by_first Sign)
    (sym c.in_err-kind.ensures)))))

pub returns-in-Plus : goal.returns-in-Plus
returns-in-Plus c =
    let n = c.advance.ensures _ (sym c.in_ok-kind.ensures) in
    elim c.in-Plus.is [
      | inl e ↦ (let x = as_kind e n in rw e (closed (opens plus_sign (on Sign refl x) ▹ x)))
      | inr e ↦ (let x = as_kind e n in rw e (closed (opens minus_sign (on Sign refl x) ▹ x)))
    ]

pub returns-in_default : goal.returns-in_default
returns-in_default c =
    closed (opens no_sign (chosen Sign (ap (by_first Sign) (sym c.in_ok-kind.ensures)
    ∙ no_sign_at (Some c.in_ok-kind.kind) (λ e. c.in_default.not-Plus cc)
    (λ e. c.in_default.not-Minus cc))))
