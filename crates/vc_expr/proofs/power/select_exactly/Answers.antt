use Rattle.vc_expr.proofs.ByPowers.{at_least, quotient_converts}
use Rattle.vc_expr.proofs.power.select_exactly.Goals as goal

pub select_shift-requires-clause-low : goal.select_shift-requires-clause-low
select_shift-requires-clause-low c =
    at_least c.args.power.number c.exponent_of-count.result c.exponent_of-count.ensures.is c.requires.more

pub returns-clause-converts : goal.returns-clause-converts
returns-clause-converts c =
    quotient_converts c.args.first c.args.at.0 c.args.code.now c.select_shift.new.code
    c.args.power.number c.args.operand.0 c.in_ok-quotient.quotient.0 c.exponent_of-count.result
    c.exponent_of-count.ensures.small c.exponent_of-count.ensures.is c.in_ok-quotient.ensures.converts
