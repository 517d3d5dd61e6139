use Rattle.std.proofs.Common.{sym, ap, ◌∙◌, subst, map}
use Rattle.vc_select.specs.Selects.{IsSafe, AreFields}
use Rattle.vc_select.proofs.Safety.{safe_number, safe_truth, safe_variable, safe_negate, safe_not}
use Rattle.vc_select.proofs.Safety.{safe_binary}
use Rattle.vc_select.specs.Blocks.{Needs, PathNeeds, all_safe, needs, needs_of_step}
use Rattle.vc_select.proofs.NeedsOf.{needs-Number, needs-Truth, needs-Var, needs-Negate, needs-Not}
use Rattle.vc_select.proofs.NeedsOf.{needs_of_var-is, safe_division, safe_left, safe_right}
use Rattle.vc_select.proofs.operator.+safe.Goals as goal

pub returns-in-Number-clause-safe : goal.returns-in-Number-clause-safe
returns-in-Number-clause-safe t c = λ e. safe_number c.in-Number.field-0 c.args.e.now c.in-Number.is

pub returns-in-Truth-clause-safe : goal.returns-in-Truth-clause-safe
returns-in-Truth-clause-safe t c = λ e. safe_truth c.in-Truth.field-0 c.args.e.now c.in-Truth.is

pub returns-in-Var-clause-safe : goal.returns-in-Var-clause-safe
returns-in-Var-clause-safe t c = λ e. safe_variable c.in-Var.v c.args.e.now c.in-Var.is
    (subst AreFields c.as_slice.ensures (c.are_fields.ensures.fields e))

pub returns-in-Negate-clause-safe : goal.returns-in-Negate-clause-safe
returns-in-Negate-clause-safe t c = λ e. safe_negate c.in-Negate.x c.args.e.now c.in-Negate.is
    (subst IsSafe c.get.ensures (c.is_safe.ensures.safe e))

pub returns-in-Not-clause-safe : goal.returns-in-Not-clause-safe
returns-in-Not-clause-safe t c = λ e. safe_not c.in-Not.x c.args.e.now c.in-Not.is
    (subst IsSafe c.get-in-Not.ensures (c.is_safe-in-Not.ensures.safe e))

pub returns-else-not-is_safe-clause-safe : goal.returns-else-not-is_safe-clause-safe
returns-else-not-is_safe-clause-safe t c = λ e.
    safe_binary c.in-Binary.op c.in-Binary.x c.in-Binary.y c.args.e.now c.in-Binary.is
    (sym c.is_division.ensures ∙ c.if-is_division.false)
    (subst IsSafe c.get-in-Binary.ensures (c.is_safe-in-Binary.ensures.safe c.if-not-is_safe.false))
    (subst IsSafe c.get-in-Binary-2.ensures (c.is_safe-in-Binary-2.ensures.safe e))

-- ---- whether it is

pub returns-in-Number-clause-is : goal.returns-in-Number-clause-is
returns-in-Number-clause-is t c =
    sym (ap (λ (z : Needs). z.safe) (needs-Number c.in-Number.field-0 c.args.e.now c.in-Number.is))

pub returns-in-Truth-clause-is : goal.returns-in-Truth-clause-is
returns-in-Truth-clause-is t c =
    sym (ap (λ (z : Needs). z.safe) (needs-Truth c.in-Truth.field-0 c.args.e.now c.in-Truth.is))

pub returns-in-Var-clause-is : goal.returns-in-Var-clause-is
returns-in-Var-clause-is t c =
    c.are_fields.ensures.is ∙ ap (λ l. all_safe (map needs_of_step l)) c.as_slice.ensures
    ∙ sym (ap (λ (z : Needs). z.safe) (needs-Var c.in-Var.v c.args.e.now c.in-Var.is)
    ∙ ap (λ (z : PathNeeds). z.safe) (needs_of_var-is c.in-Var.v))

pub returns-in-Negate-clause-is : goal.returns-in-Negate-clause-is
returns-in-Negate-clause-is t c = c.is_safe.ensures.is ∙ ap (λ z. (needs z).safe) c.get.ensures
    ∙ sym (ap (λ (z : Needs). z.safe) (needs-Negate c.in-Negate.x c.args.e.now c.in-Negate.is))

pub returns-in-Not-clause-is : goal.returns-in-Not-clause-is
returns-in-Not-clause-is t c = c.is_safe-in-Not.ensures.is
    ∙ ap (λ z. (needs z).safe) c.get-in-Not.ensures
    ∙ sym (ap (λ (z : Needs). z.safe) (needs-Not c.in-Not.x c.args.e.now c.in-Not.is))

pub returns-then-is_division-clause-is : goal.returns-then-is_division-clause-is
returns-then-is_division-clause-is t c =
    sym (safe_division c.in-Binary.op c.in-Binary.x c.in-Binary.y c.args.e.now c.in-Binary.is
    (sym c.is_division.ensures ∙ c.if-is_division.true))

pub returns-then-not-is_safe-clause-is : goal.returns-then-not-is_safe-clause-is
returns-then-not-is_safe-clause-is t c =
    sym (safe_left c.in-Binary.op c.in-Binary.x c.in-Binary.y c.args.e.now c.in-Binary.is
    (sym c.is_division.ensures ∙ c.if-is_division.false)
    (sym (ap (λ z. (needs z).safe) c.get-in-Binary.ensures) ∙ sym c.is_safe-in-Binary.ensures.is
    ∙ c.if-not-is_safe.true))

pub returns-else-not-is_safe-clause-is : goal.returns-else-not-is_safe-clause-is
returns-else-not-is_safe-clause-is t c =
    c.is_safe-in-Binary-2.ensures.is ∙ ap (λ z. (needs z).safe) c.get-in-Binary-2.ensures
    ∙ sym (safe_right c.in-Binary.op c.in-Binary.x c.in-Binary.y c.args.e.now c.in-Binary.is
    (sym c.is_division.ensures ∙ c.if-is_division.false)
    (sym (ap (λ z. (needs z).safe) c.get-in-Binary.ensures) ∙ sym c.is_safe-in-Binary.ensures.is
    ∙ c.if-not-is_safe.false))
