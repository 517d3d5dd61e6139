use Rattle.std.proofs.Common.{ap, ◌∙◌, arith}
use Rattle.std.specs.Int.{w32}
use Rattle.std.proofs.lemmas.Int.{to_z-of_z}
use Rattle.pra_base.specs.Words.{word}
use Rattle.vc_expr.proofs.ByPowers.{power_from}
use Rattle.vc_expr.proofs.power.is_power.Goals as goal

pub returns-then-exponent-lt-EXPONENTS : goal.returns-then-exponent-lt-EXPONENTS
returns-then-exponent-lt-EXPONENTS c = power_from c.args.n c.cast_unsigned-bits.result _
    (c.cast_unsigned-bits.ensures ∙ ap word (to_z-of_z w32 c.args.n c.ranges.n)) c.ranges.n
    (omega (arith, c.if-exponent-lt-EXPONENTS.true))
