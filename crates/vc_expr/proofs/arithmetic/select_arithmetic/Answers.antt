use Rattle.std.proofs.Common.{◌≡◌, ◌<◌, length, ap, sym, ◌∙◌, subst, arith}
use Rattle.pra_base.specs.declared.code.VProc.{VProc}
use Rattle.vc_build.specs.Grow.{with_instr}
use Rattle.vc_expr.specs.Operators.{arithmetic_of, Operates}
use Rattle.vc_expr.proofs.Sums.{operates_arithmetic}
use Rattle.vc_expr.specs.Rules.{StaysValid}
use Rattle.vc_expr.specs.Readable.{ReadsOperands}
use Rattle.vc_expr.proofs.Added.{arithmetic_valid}
use Rattle.vc_expr.proofs.Published.{arithmetic_publishes}
use Rattle.vc_expr.specs.Counts.{OperationAdds}
use Rattle.vc_expr.proofs.Counting.{operation_adds}
use Rattle.vc_expr.proofs.arithmetic.select_arithmetic.Goals as goal

pub returns-clause-operates : goal.returns-clause-operates
returns-clause-operates c =
    let target = c.in_ok-target.target in
    let made : c.put.new.code ≡ with_instr c.args.at.0 (arithmetic_of c.args.op target c.args.right)
    c.start.new.code =
    c.in_ok-put.ensures ∙ ap (λ i. with_instr c.args.at.0 i c.start.new.code)
    c.arithmetic_of.ensures in
    subst (λ (z : VProc). Operates c.args.op c.args.first c.args.at.0 c.args.code.now z
    c.args.left.0 c.args.right.0 target.0) (sym made)
    (operates_arithmetic c.args.op c.requires.op c.args.first c.args.at.0 c.args.code.now
    c.start.new.code c.args.left.0 target c.args.right c.in_ok-target.ensures.begins
    c.requires.right c.requires.first)

pub returns-clause-valid : goal.returns-clause-valid
returns-clause-valid c =
    let target = c.in_ok-target.target in
    let made : c.put.new.code ≡ with_instr c.args.at.0 (arithmetic_of c.args.op target c.args.right)
    c.start.new.code =
    c.in_ok-put.ensures ∙ ap (λ i. with_instr c.args.at.0 i c.start.new.code)
    c.arithmetic_of.ensures in
    let there : c.args.right.0 < length c.start.new.code.vars =
    omega (arith, c.requires.right, c.in_ok-target.ensures.vars) in
    subst (λ (z : VProc). StaysValid c.args.code.now z) (sym made)
    (arithmetic_valid c.args.first c.args.at.0 c.args.code.now c.start.new.code target c.args.right
    c.in_ok-target.ensures.begins.adds c.in_ok-target.ensures.valid there c.args.op)

pub returns-clause-reads : goal.returns-clause-reads
returns-clause-reads c =
    let target = c.in_ok-target.target in
    let made : c.put.new.code ≡ with_instr c.args.at.0 (arithmetic_of c.args.op target c.args.right)
    c.start.new.code =
    c.in_ok-put.ensures ∙ ap (λ i. with_instr c.args.at.0 i c.start.new.code)
    c.arithmetic_of.ensures in
    subst (λ (z : VProc). ReadsOperands c.args.first c.args.at.0 c.args.code.now z c.args.left.0
    c.args.right.0 target.0) (sym made)
    (arithmetic_publishes c.args.first c.args.at.0 c.args.code.now c.start.new.code c.args.left.0
    target c.args.right c.in_ok-target.ensures.begins.adds.is_open c.in_ok-target.ensures.reads
    c.requires.right c.requires.first c.args.op)

pub returns-clause-counts : goal.returns-clause-counts
returns-clause-counts c =
    subst (λ (z : VProc). OperationAdds 1 0 0 c.args.first c.args.left.0 c.args.code.now z)
    (sym c.in_ok-put.ensures)
    (operation_adds c.args.first c.args.left.0 c.args.at.0 c.arithmetic_of.result c.args.code.now
    c.start.new.code c.in_ok-target.ensures.counts c.in_ok-target.ensures.begins.adds.is_open)
