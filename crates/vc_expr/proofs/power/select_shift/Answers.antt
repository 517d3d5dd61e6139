use Rattle.std.proofs.Common.{sym, subst}
use Rattle.pra_base.specs.declared.code.VProc.{VProc}
use Rattle.vc_expr.specs.Operators.{Converts}
use Rattle.vc_expr.specs.Division.{shifted_by}
use Rattle.vc_expr.proofs.Shifting.{shift_converts}
use Rattle.vc_expr.specs.Rules.{StaysValid}
use Rattle.vc_expr.specs.Readable.{ReadsOperands}
use Rattle.vc_expr.proofs.Added.{shift_valid}
use Rattle.vc_expr.proofs.Published.{shift_publishes}
use Rattle.vc_expr.specs.Counts.{OperationAdds}
use Rattle.vc_expr.proofs.Counting.{operation_adds}
use Rattle.pra_base.specs.declared.code.VInstr.TheVariants.{Shift}
use Rattle.vc_expr.proofs.power.select_shift.Goals as goal

pub returns-clause-converts : goal.returns-clause-converts
returns-clause-converts c =
    let target = c.in_ok-target.target in
    subst (λ (z : VProc). Converts (shifted_by c.args.op c.args.count) c.args.first c.args.at.0
    c.args.code.now z c.args.operand.0 target.0) (sym c.in_ok-put.ensures)
    (shift_converts c.args.op c.args.count c.args.first c.args.at.0 c.args.code.now c.start.new.code
    c.args.operand.0 target c.in_ok-target.ensures.begins c.requires.first)

pub returns-clause-valid : goal.returns-clause-valid
returns-clause-valid c =
    let target = c.in_ok-target.target in
    subst (λ (z : VProc). StaysValid c.args.code.now z) (sym c.in_ok-put.ensures)
    (shift_valid c.args.first c.args.at.0 c.args.code.now c.start.new.code target target
    c.in_ok-target.ensures.begins.adds c.in_ok-target.ensures.valid
    c.in_ok-target.ensures.begins.adds.named c.args.op c.args.count c.requires.low c.requires.high)

pub returns-clause-reads : goal.returns-clause-reads
returns-clause-reads c =
    let target = c.in_ok-target.target in
    subst (λ (z : VProc). ReadsOperands c.args.first c.args.at.0 c.args.code.now z c.args.operand.0
    c.args.operand.0 target.0) (sym c.in_ok-put.ensures)
    (shift_publishes c.args.first c.args.at.0 c.args.code.now c.start.new.code c.args.operand.0
    target c.in_ok-target.ensures.begins.adds.is_open c.in_ok-target.ensures.reads c.requires.first
    c.args.op c.args.count)

pub returns-clause-counts : goal.returns-clause-counts
returns-clause-counts c =
    subst (λ (z : VProc). OperationAdds 1 0 0 c.args.first c.args.operand.0 c.args.code.now z)
    (sym c.in_ok-put.ensures)
    (operation_adds c.args.first c.args.operand.0 c.args.at.0
    (Shift c.args.op c.in_ok-target.target c.args.count) c.args.code.now c.start.new.code
    c.in_ok-target.ensures.counts c.in_ok-target.ensures.begins.adds.is_open)
