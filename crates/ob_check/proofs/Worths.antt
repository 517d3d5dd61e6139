-- What an expression of each form is worth, and how many signs and operators it has.
use Rattle.std.proofs.Common.{◌≡◌, ℕ, ◌+◌, None, sym, ap, ◌∙◌}
use Rattle.ob_syntax.specs.declared.checked.ROp.{ROp}
use Rattle.ob_syntax.specs.declared.checked.RExpr.{RExpr, RExpr-F, roll-RExpr, map-RExpr}
use Rattle.ob_syntax.specs.declared.checked.RExpr.{fold-RExpr, fold-roll-RExpr}
use Rattle.ob_syntax.specs.declared.checked.RExpr.TheVariants as x
use Rattle.ob_syntax.specs.declared.checked.RStep.{RStep}
use Rattle.ob_syntax.specs.declared.checked.RVar.{RVar}
use Rattle.ob_syntax.specs.Operators.{negated, inverted}
use Rattle.ob_syntax.specs.Types.{Worth, worth, worth_step, worth_of_one, worth_of_both}

worth_roll : (e : RExpr-F RExpr RStep RVar) → worth (roll-RExpr e) ≡
    worth_step (map-RExpr RExpr RStep RVar Worth (Unit {0}) (Unit {0}) worth (λ _. tt) (λ _. tt) e)
worth_roll = fold-roll-RExpr Worth (Unit {0}) (Unit {0}) worth_step (λ _. tt) (λ _. tt)

pub worth-Var : (v : RVar) → worth (x.Var v) ≡ None
worth-Var v = ap worth (sym (x.rolls-Var v)) ∙ worth_roll (RExpr-F.Var v)

pub worth-Negate : (e : RExpr) → worth (x.Negate e) ≡ worth_of_one negated (worth e)
worth-Negate e = ap worth (sym (x.rolls-Negate e)) ∙ worth_roll (RExpr-F.Negate e)

pub worth-Not : (e : RExpr) → worth (x.Not e) ≡ worth_of_one inverted (worth e)
worth-Not e = ap worth (sym (x.rolls-Not e)) ∙ worth_roll (RExpr-F.Not e)

pub worth-Binary : (op : ROp) (a b : RExpr) → worth (x.Binary op a b) ≡ worth_of_both op (worth a)
    (worth b)
worth-Binary op a b = ap worth (sym (x.rolls-Binary op a b)) ∙ worth_roll (RExpr-F.Binary op a b)

-- ---- signs and operators

operators_step : RExpr-F ℕ (Unit {0}) (Unit {0}) → ℕ
operators_step (RExpr-F.Number n) = 0
operators_step (RExpr-F.Truth b) = 0
operators_step (RExpr-F.Var v) = 0
operators_step (RExpr-F.Negate n) = n + 1
operators_step (RExpr-F.Not n) = n + 1
operators_step (RExpr-F.Binary op m n) = m + n + 1

pub operators : RExpr → ℕ
operators = fold-RExpr ℕ (Unit {0}) (Unit {0}) operators_step (λ _. tt) (λ _. tt)

operators_roll : (e : RExpr-F RExpr RStep RVar) → operators (roll-RExpr e) ≡
    operators_step (map-RExpr RExpr RStep RVar ℕ (Unit {0}) (Unit {0}) operators (λ _. tt)
    (λ _. tt) e)
unfolding operators
operators_roll = fold-roll-RExpr ℕ (Unit {0}) (Unit {0}) operators_step (λ _. tt) (λ _. tt)

pub operators-Negate : (e : RExpr) → operators (x.Negate e) ≡ operators e + 1
unfolding operators_step
operators-Negate e = ap operators (sym (x.rolls-Negate e)) ∙ operators_roll (RExpr-F.Negate e)

pub operators-Not : (e : RExpr) → operators (x.Not e) ≡ operators e + 1
unfolding operators_step
operators-Not e = ap operators (sym (x.rolls-Not e)) ∙ operators_roll (RExpr-F.Not e)

pub operators-Binary : (op : ROp) (a b : RExpr) →
    operators (x.Binary op a b) ≡ operators a + operators b + 1
unfolding operators_step
operators-Binary op a b =
    ap operators (sym (x.rolls-Binary op a b)) ∙ operators_roll (RExpr-F.Binary op a b)
