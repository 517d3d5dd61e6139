use Rattle.std.proofs.Common.{◌≡◌, pos, ◌^◌, ap, ◌∙◌, sym, arith}
use Rattle.std.specs.Int.{w32, trailing_zeros}
use Rattle.std.proofs.lemmas.Int.{to_z-of_z}
use Rattle.pra_base.specs.Words.{word}
use Rattle.vc_expr.proofs.ByPowers.{word_power, power_fits}
use Rattle.vc_expr.proofs.Powers.{trailing_power}
use Rattle.vc_expr.proofs.power.exponent_of.Goals as goal

pub returns-clause-small : goal.returns-clause-small
returns-clause-small c =
    let p = c.requires in
    let bits : c.cast_unsigned-bits.result ≡ 2 ^ p.exponent =
    c.cast_unsigned-bits.ensures
    ∙ ap word (to_z-of_z w32 c.args.power.number (power_fits c.args.power.number p) ∙ p.is)
    ∙ word_power p.exponent p.small in
    let count : trailing_zeros w32 c.cast_unsigned-bits.result ≡ p.exponent =
    ap (trailing_zeros w32) bits ∙ trailing_power p.exponent (omega (arith, p.small)) in
    omega (arith, count, p.small)

pub returns-clause-is : goal.returns-clause-is
returns-clause-is c =
    let p = c.requires in
    let bits : c.cast_unsigned-bits.result ≡ 2 ^ p.exponent =
    c.cast_unsigned-bits.ensures
    ∙ ap word (to_z-of_z w32 c.args.power.number (power_fits c.args.power.number p) ∙ p.is)
    ∙ word_power p.exponent p.small in
    let count : trailing_zeros w32 c.cast_unsigned-bits.result ≡ p.exponent =
    ap (trailing_zeros w32) bits ∙ trailing_power p.exponent (omega (arith, p.small)) in
    p.is ∙ ap (λ k. pos (2 ^ k)) (sym count)
