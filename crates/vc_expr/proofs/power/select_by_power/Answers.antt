use Rattle.std.proofs.Common.{sym, subst, arith}
use Rattle.vc_expr.specs.Operators.{Operates}
use Rattle.vc_expr.proofs.ByPowers.{mod_operates, div_operates, reads_left}
use Rattle.vc_expr.proofs.Counting.{weaker}
use Rattle.vc_expr.proofs.Dividing.{not_mod}
use Rattle.vc_expr.proofs.power.select_by_power.Goals as goal

pub returns-in_ok-remainder-in-Mod-clause-operates :
    goal.returns-in_ok-remainder-in-Mod-clause-operates
returns-in_ok-remainder-in-Mod-clause-operates c =
    let old = c.args.code.now in
    subst (λ op. Operates op c.args.first c.args.at.0 old c.select_remainder.new.code
    c.args.left.0 c.args.power.divisor.0 c.in_ok-remainder-in-Mod.remainder.0) (sym c.in-Mod.is)
    (mod_operates c.args.first c.args.at.0 old c.select_remainder.new.code c.args.power.number
    c.args.left.0 c.args.power.divisor.0 c.in_ok-remainder-in-Mod.remainder.0 c.requires.power
    c.requires.divisor c.requires.kind c.in_ok-remainder-in-Mod.ensures.converts)

pub returns-in_ok-remainder-in-Mod-clause-counts :
    goal.returns-in_ok-remainder-in-Mod-clause-counts
returns-in_ok-remainder-in-Mod-clause-counts c =
    weaker 1 0 1 6 3 1 c.args.first c.args.left.0 c.args.code.now c.select_remainder.new.code
    (omega arith) (omega arith) (omega arith) c.in_ok-remainder-in-Mod.ensures.counts

pub returns-in_ok-remainder-in-Mod-clause-reads :
    goal.returns-in_ok-remainder-in-Mod-clause-reads
returns-in_ok-remainder-in-Mod-clause-reads c = reads_left c.args.first c.args.at.0
    c.args.code.now c.select_remainder.new.code c.args.left.0 c.args.power.divisor.0
    c.in_ok-remainder-in-Mod.remainder.0 c.in_ok-remainder-in-Mod.ensures.reads

pub returns-in_ok-quotient-in_default-clause-operates :
    goal.returns-in_ok-quotient-in_default-clause-operates
returns-in_ok-quotient-in_default-clause-operates c =
    let old = c.args.code.now in
    subst (λ op. Operates op c.args.first c.args.at.0 old c.select_quotient.new.code
    c.args.left.0 c.args.power.divisor.0 c.in_ok-quotient-in_default.quotient.0)
    (not_mod c.args.op c.requires.op c.in_default.not-Mod)
    (div_operates c.args.first c.args.at.0 old c.select_quotient.new.code c.args.power.number
    c.args.left.0 c.args.power.divisor.0 c.in_ok-quotient-in_default.quotient.0 c.requires.power
    c.requires.divisor c.requires.kind c.in_ok-quotient-in_default.ensures.converts)

pub returns-in_ok-quotient-in_default-clause-counts :
    goal.returns-in_ok-quotient-in_default-clause-counts
returns-in_ok-quotient-in_default-clause-counts c =
    weaker 1 0 0 6 3 1 c.args.first c.args.left.0 c.args.code.now c.select_quotient.new.code
    (omega arith) (omega arith) (omega arith) c.in_ok-quotient-in_default.ensures.counts

pub returns-in_ok-quotient-in_default-clause-reads :
    goal.returns-in_ok-quotient-in_default-clause-reads
returns-in_ok-quotient-in_default-clause-reads c = reads_left c.args.first c.args.at.0
    c.args.code.now c.select_quotient.new.code c.args.left.0 c.args.power.divisor.0
    c.in_ok-quotient-in_default.quotient.0 c.in_ok-quotient-in_default.ensures.reads
