use Rattle.std.proofs.Common.{◌<◌, length, sym, subst, arith}
use Rattle.pra_base.specs.declared.code.VProc.{VProc}
use Rattle.vc_expr.specs.Operators.{Combines}
use Rattle.vc_expr.specs.Division.{AnySides, in_common}
use Rattle.vc_expr.proofs.Rounding.{bits_combine}
use Rattle.vc_expr.specs.Rules.{StaysValid}
use Rattle.vc_expr.specs.Readable.{ReadsOperands}
use Rattle.vc_expr.proofs.Added.{mask_valid}
use Rattle.vc_expr.proofs.Published.{mask_publishes}
use Rattle.vc_expr.specs.Counts.{OperationAdds}
use Rattle.vc_expr.proofs.Counting.{operation_adds}
use Rattle.pra_base.specs.declared.code.VInstr.TheVariants.{And}
use Rattle.vc_expr.proofs.division.select_and.Goals as goal

pub returns-clause-combines : goal.returns-clause-combines
returns-clause-combines c =
    let target = c.in_ok-target.target in
    subst (λ (z : VProc). Combines AnySides in_common c.args.first c.args.at.0 c.args.code.now z
    c.args.left.0 c.args.right.0 target.0) (sym c.in_ok-put.ensures)
    (bits_combine c.args.first c.args.at.0 c.args.code.now c.start.new.code c.args.left.0 target
    c.args.right c.in_ok-target.ensures.begins c.requires.right c.requires.first)

pub returns-clause-valid : goal.returns-clause-valid
returns-clause-valid c =
    let target = c.in_ok-target.target in
    let there : c.args.right.0 < length c.start.new.code.vars =
    omega (arith, c.requires.right, c.in_ok-target.ensures.vars) in
    subst (λ (z : VProc). StaysValid c.args.code.now z) (sym c.in_ok-put.ensures)
    (mask_valid c.args.first c.args.at.0 c.args.code.now c.start.new.code target c.args.right
    c.in_ok-target.ensures.begins.adds c.in_ok-target.ensures.valid there)

pub returns-clause-reads : goal.returns-clause-reads
returns-clause-reads c =
    let target = c.in_ok-target.target in
    subst (λ (z : VProc). ReadsOperands c.args.first c.args.at.0 c.args.code.now z c.args.left.0
    c.args.right.0 target.0) (sym c.in_ok-put.ensures)
    (mask_publishes c.args.first c.args.at.0 c.args.code.now c.start.new.code c.args.left.0 target
    c.args.right c.in_ok-target.ensures.begins.adds.is_open c.in_ok-target.ensures.reads
    c.requires.right c.requires.first)

pub returns-clause-counts : goal.returns-clause-counts
returns-clause-counts c =
    subst (λ (z : VProc). OperationAdds 1 0 0 c.args.first c.args.left.0 c.args.code.now z)
    (sym c.in_ok-put.ensures)
    (operation_adds c.args.first c.args.left.0 c.args.at.0 (And c.in_ok-target.target c.args.right)
    c.args.code.now c.start.new.code c.in_ok-target.ensures.counts
    c.in_ok-target.ensures.begins.adds.is_open)
