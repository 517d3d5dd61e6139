use Rattle.std.proofs.Common.{◌≡◌, ℕ, Some, refl, arith, Bool, true, false}
use Rattle.std.specs.Prelude.{MatchBool}
use Rattle.ob_syntax.specs.declared.token.Kind.TheVariants.{KwVar}
use Rattle.ob_syntax.specs.Grammar.{ByVar, by_value, by_var, section}
use Rattle.ob_syntax.specs.ChosenRule.{first}
use Rattle.ob_parse.specs.declared.cursor.Parser.{Parser}
use Rattle.ob_parse.specs.Reading.{left, IsRead, IsNext}
use Rattle.ob_parse.proofs.Choices.{by_value_first}
use Rattle.ob_parse.proofs.PhraseUnderway.{as_deep, closed}
use Rattle.ob_parse.proofs.PhraseSteps.{chosen, on, opens, ◌▹◌, ◌▸◌, closed_as, lacks, fails}
use Rattle.ob_parse.proofs.declaration.section.Goals as goal

var_read : {b : Bool} {room : ℕ} {p q : Parser} → MatchBool b (IsNext KwVar p q)
    ((q ≡ p) × (first (left p) ≡ Some KwVar → ⊥)) → IsRead ByVar room b p q
var_read {b = true} n = closed (opens by_var (on ByVar refl n) ▹ n)
var_read {b = false} e =
    closed_as (opens by_value (chosen ByVar (by_value_first _ e.1))) e.0 refl

pub returns-in_err-names : goal.returns-in_err-names
returns-in_err-names c =
    fails (opens section (λ _ _. refl) ▸ var_read c.accept-by_var.ensures) (as_deep _) (omega arith)
    _ _ _ (c.in_err-names.ensures c.args.room) c.from_residual.ensures.1

pub returns-in_err-expect : goal.returns-in_err-expect
returns-in_err-expect c =
    lacks (opens section (λ _ _. refl) ▸ var_read c.accept-by_var.ensures ▸ (c.in_ok-names.ensures
    c.args.room)) (omega arith) _ c.in_err-expect.ensures c.from_residual-in_err-expect.ensures.1

pub returns-in_err-shape : goal.returns-in_err-shape
returns-in_err-shape c =
    fails (opens section (λ _ _. refl) ▸ var_read c.accept-by_var.ensures ▸ (c.in_ok-names.ensures
    c.args.room) ▹ c.in_ok-expect.ensures) (as_deep _) (omega arith) _ _ _ c.in_err-shape.ensures
    c.from_residual-in_err-shape.ensures.1

pub returns : goal.returns
returns c =
    closed (opens section (λ _ _. refl) ▸ var_read c.accept-by_var.ensures ▸ (c.in_ok-names.ensures
    c.args.room) ▹ c.in_ok-expect.ensures ▸ c.in_ok-shape.ensures)
