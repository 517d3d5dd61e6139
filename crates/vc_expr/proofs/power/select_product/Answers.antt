use Rattle.std.proofs.Common.{◌≡◌, sym, ◌∙◌}
use Rattle.std.proofs.lemmas.List.{get_or_read}
use Rattle.pra_base.specs.Code.{kind_of}
use Rattle.pra_base.specs.declared.code.VarKind.TheVariants.{Plain, Constant}
use Rattle.vc_expr.proofs.ByPowers.{mul_operates, mul_operates_right}
use Rattle.vc_expr.proofs.power.select_product.Goals as goal

pub returns-in-Some-clause-operates : goal.returns-in-Some-clause-operates
returns-in-Some-clause-operates c =
    let kind : kind_of c.args.code.now c.args.right.0 ≡ Constant c.in-Some.power.number =
    sym (get_or_read c.args.code.now.vars c.args.right.0 c.index.result.now c.requires.right
    c.index.ensures Plain) ∙ c.in-Some.ensures.kind in
    mul_operates c.args.first c.args.at.0 c.args.code.now c.select_shift.new.code
    c.in-Some.power.number c.args.left.0 c.args.right.0 c.in_ok-shifted.shifted.0
    c.in-Some.ensures.power c.requires.right kind c.exponent_of-count.result
    c.exponent_of-count.ensures.small c.exponent_of-count.ensures.is
    c.in_ok-shifted.ensures.converts

pub returns-in-Some-long_power_of-clause-operates :
    goal.returns-in-Some-long_power_of-clause-operates
returns-in-Some-long_power_of-clause-operates c =
    let factor = c.in-Some-long_power_of.factor.number in
    let kind : kind_of c.args.code.now c.args.left.0 ≡ Constant factor =
    sym (get_or_read c.args.code.now.vars c.args.left.0 c.index-2.result.now c.requires.left
    c.index-2.ensures Plain) ∙ c.in-Some-long_power_of.ensures.kind in
    mul_operates_right c.args.first c.args.at.0 c.args.code.now
    c.select_shift-in-Some-long_power_of.new.code factor c.args.right.0 c.args.left.0
    c.in_ok-multiple.multiple.0 c.in-Some-long_power_of.ensures.power c.requires.left kind
    c.exponent_of-bits.result c.exponent_of-bits.ensures.small c.exponent_of-bits.ensures.is
    c.in_ok-multiple.ensures.converts
