use Rattle.std.proofs.Common.{sym, ap, ◌∙◌}
use Rattle.std.specs.Prelude.{◌||◌, not}
use Rattle.ob_mean.specs.Expressions.{value}
use Rattle.vc_select.proofs.Sides.{joined_sided, joined_safe}
use Rattle.vc_select.specs.Blocks.{needs}
use Rattle.vc_select.proofs.operator.is_sided.Goals as goal

pub returns-then-is_bitwise-clause-sided : goal.returns-then-is_bitwise-clause-sided
returns-then-is_bitwise-clause-sided c = λ e program f calls store.
    joined_safe f (value program c.args.y.now) calls store c.args.op
    (sym c.is_bitwise.ensures ∙ c.if-is_bitwise.true) (c.is_safe.ensures.safe e program)

pub returns-clause-sided : goal.returns-clause-sided
returns-clause-sided c = λ e program f calls store. joined_sided f (value program c.args.y.now)
    calls store c.args.op (sym c.is_bitwise.ensures ∙ c.if-is_bitwise.false)

pub returns-then-is_bitwise-clause-is : goal.returns-then-is_bitwise-clause-is
returns-then-is_bitwise-clause-is c = c.is_safe.ensures.is
    ∙ sym (ap (λ z. not z || (needs c.args.y.now).safe)
    (sym c.is_bitwise.ensures ∙ c.if-is_bitwise.true))

pub returns-clause-is : goal.returns-clause-is
returns-clause-is c = sym (ap (λ z. not z || (needs c.args.y.now).safe)
    (sym c.is_bitwise.ensures ∙ c.if-is_bitwise.false))
