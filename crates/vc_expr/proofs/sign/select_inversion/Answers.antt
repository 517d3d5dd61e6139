use Rattle.std.proofs.Common.{length, sym, subst, pos}
use Rattle.ob_syntax.specs.Operators.{inverted}
use Rattle.pra_base.specs.declared.code.VarKind.TheVariants.{Constant}
use Rattle.pra_base.specs.declared.code.VProc.{VProc}
use Rattle.vc_build.specs.Grow.{with_instr, with_variable}
use Rattle.vc_expr.specs.Operators.{Begins, ConvertsBit}
use Rattle.vc_expr.proofs.Inversions.{inversion_converts}
use Rattle.vc_expr.specs.Rules.{StaysValid}
use Rattle.vc_expr.specs.Readable.{ReadsOperands}
use Rattle.vc_expr.proofs.Added.{inversion_valid}
use Rattle.vc_expr.proofs.Published.{inversion_publishes}
use Rattle.vc_expr.specs.Counts.{OperationAdds}
use Rattle.vc_expr.proofs.Counting.{operation_adds, with_constant}
use Rattle.pra_base.specs.declared.code.VInstr.TheVariants.{Xor}
use Rattle.vc_expr.proofs.sign.select_inversion.Goals as goal

pub returns-clause-converts : goal.returns-clause-converts
returns-clause-converts c =
    let old = c.args.code.now in
    let one = c.in_ok-one.one in
    let target = c.in_ok-target.target in
    let begins : Begins c.args.first c.args.at.0 (with_variable (Constant (pos 1)) old)
    c.start.new.code c.args.operand.0 target.0 =
    subst (λ (z : VProc). Begins c.args.first c.args.at.0 z c.start.new.code c.args.operand.0
    target.0) c.in_ok-one.ensures.made c.in_ok-target.ensures.begins in
    subst (λ (z : VProc). ConvertsBit inverted c.args.first c.args.at.0 old z c.args.operand.0
    target.0) (sym c.in_ok-put.ensures)
    (inversion_converts c.args.first c.args.at.0 old c.start.new.code c.args.operand.0 target one
    c.in_ok-one.ensures.number begins c.requires.first)

pub returns-clause-valid : goal.returns-clause-valid
returns-clause-valid c =
    let old = c.args.code.now in
    let one = c.in_ok-one.one in
    let target = c.in_ok-target.target in
    let begins : Begins c.args.first c.args.at.0 (with_variable (Constant (pos 1)) old)
    c.start.new.code c.args.operand.0 target.0 =
    subst (λ (z : VProc). Begins c.args.first c.args.at.0 z c.start.new.code c.args.operand.0
    target.0) c.in_ok-one.ensures.made c.in_ok-target.ensures.begins in
    let valid : StaysValid (with_variable (Constant (pos 1)) old) c.start.new.code =
    subst (λ (z : VProc). StaysValid z c.start.new.code) c.in_ok-one.ensures.made
    c.in_ok-target.ensures.valid in
    subst (λ (z : VProc). StaysValid old z) (sym c.in_ok-put.ensures)
    (inversion_valid c.args.first c.args.at.0 old c.start.new.code target one
    c.in_ok-one.ensures.number begins.adds valid)

pub returns-clause-reads : goal.returns-clause-reads
returns-clause-reads c =
    let old = c.args.code.now in
    let one = c.in_ok-one.one in
    let target = c.in_ok-target.target in
    let reads : ReadsOperands (length (with_variable (Constant (pos 1)) old).vars) c.args.at.0
    (with_variable (Constant (pos 1)) old) c.start.new.code c.args.operand.0 c.args.operand.0
    target.0 =
    subst (λ (z : VProc). ReadsOperands (length z.vars) c.args.at.0 z c.start.new.code
    c.args.operand.0 c.args.operand.0 target.0) c.in_ok-one.ensures.made
    c.in_ok-target.ensures.reads in
    subst (λ (z : VProc). ReadsOperands c.args.first c.args.at.0 old z c.args.operand.0
    c.args.operand.0 target.0) (sym c.in_ok-put.ensures)
    (inversion_publishes c.args.first c.args.at.0 old c.start.new.code c.args.operand.0 target one
    c.in_ok-one.ensures.number c.in_ok-target.ensures.begins.adds.is_open reads
    c.requires.first)

pub returns-clause-counts : goal.returns-clause-counts
returns-clause-counts c =
    let old = c.args.code.now in
    let target = c.in_ok-target.target in
    let starts : OperationAdds 0 0 0 c.args.first c.args.operand.0
    (with_variable (Constant (pos 1)) old) c.start.new.code =
    subst (λ (z : VProc). OperationAdds 0 0 0 c.args.first c.args.operand.0 z c.start.new.code)
    c.in_ok-one.ensures.made c.in_ok-target.ensures.counts in
    subst (λ (z : VProc). OperationAdds 1 0 1 c.args.first c.args.operand.0 old z)
    (sym c.in_ok-put.ensures)
    (with_constant (pos 1) c.args.first c.args.operand.0 old
    (with_instr c.args.at.0 (Xor target c.in_ok-one.one) c.start.new.code) c.requires.operand
    (operation_adds c.args.first c.args.operand.0 c.args.at.0 (Xor target c.in_ok-one.one)
    (with_variable (Constant (pos 1)) old) c.start.new.code starts
    c.in_ok-target.ensures.begins.adds.is_open))
