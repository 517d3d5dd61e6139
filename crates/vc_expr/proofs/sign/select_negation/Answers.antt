use Rattle.std.proofs.Common.{sym, subst}
use Rattle.ob_syntax.specs.Operators.{negated}
use Rattle.pra_base.specs.declared.code.VProc.{VProc}
use Rattle.vc_expr.specs.Operators.{Converts}
use Rattle.vc_expr.proofs.Signs.{negation_converts}
use Rattle.vc_expr.specs.Rules.{StaysValid}
use Rattle.vc_expr.specs.Readable.{ReadsOperands}
use Rattle.vc_expr.proofs.Added.{neg_valid}
use Rattle.vc_expr.proofs.Published.{neg_publishes}
use Rattle.vc_expr.specs.Counts.{OperationAdds}
use Rattle.vc_expr.proofs.Counting.{operation_adds}
use Rattle.pra_base.specs.declared.code.VInstr.TheVariants.{Neg}
use Rattle.vc_expr.proofs.sign.select_negation.Goals as goal

pub returns-clause-converts : goal.returns-clause-converts
returns-clause-converts c =
    let target = c.in_ok-target.target in
    subst (λ (z : VProc). Converts negated c.args.first c.args.at.0 c.args.code.now z
    c.args.operand.0 target.0) (sym c.in_ok-put.ensures)
    (negation_converts c.args.first c.args.at.0 c.args.code.now c.start.new.code c.args.operand.0
    target c.in_ok-target.ensures.begins c.requires.first)

pub returns-clause-valid : goal.returns-clause-valid
returns-clause-valid c =
    let target = c.in_ok-target.target in
    subst (λ (z : VProc). StaysValid c.args.code.now z) (sym c.in_ok-put.ensures)
    (neg_valid c.args.first c.args.at.0 c.args.code.now c.start.new.code target target
    c.in_ok-target.ensures.begins.adds c.in_ok-target.ensures.valid
    c.in_ok-target.ensures.begins.adds.named)

pub returns-clause-reads : goal.returns-clause-reads
returns-clause-reads c =
    let target = c.in_ok-target.target in
    subst (λ (z : VProc). ReadsOperands c.args.first c.args.at.0 c.args.code.now z c.args.operand.0
    c.args.operand.0 target.0) (sym c.in_ok-put.ensures)
    (neg_publishes c.args.first c.args.at.0 c.args.code.now c.start.new.code c.args.operand.0 target
    c.in_ok-target.ensures.begins.adds.is_open c.in_ok-target.ensures.reads c.requires.first)

pub returns-clause-counts : goal.returns-clause-counts
returns-clause-counts c =
    subst (λ (z : VProc). OperationAdds 1 0 0 c.args.first c.args.operand.0 c.args.code.now z)
    (sym c.in_ok-put.ensures)
    (operation_adds c.args.first c.args.operand.0 c.args.at.0 (Neg c.in_ok-target.target)
    c.args.code.now c.start.new.code c.in_ok-target.ensures.counts
    c.in_ok-target.ensures.begins.adds.is_open)
