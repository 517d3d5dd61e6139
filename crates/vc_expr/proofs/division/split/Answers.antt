use Rattle.std.proofs.Common.{List, pos, ap, ◌∙◌, subst}
use Rattle.std.specs.Prelude.{slice_index_or}
use Rattle.pra_base.specs.declared.code.VarKind.{VarKind}
use Rattle.pra_base.specs.declared.code.VarKind.TheVariants.{Plain, Constant}
use Rattle.pra_base.specs.declared.code.VProc.{VProc}
use Rattle.ob_syntax.specs.declared.checked.ROp.TheVariants.{Less}
use Rattle.vc_build.specs.Grow.{with_variable}
use Rattle.vc_expr.specs.Operators.{Operates}
use Rattle.vc_expr.proofs.Splitting.{splits}
use Rattle.vc_expr.specs.Rules.{StaysValid}
use Rattle.vc_expr.specs.Readable.{ReadsOperands}
use Rattle.vc_expr.proofs.Whole.{split_valid, split_reads}
use Rattle.vc_expr.specs.Counts.{AddsAtMost}
use Rattle.vc_expr.proofs.Counting.{split_adds}
use Rattle.vc_expr.proofs.division.split.Goals as goal

pub returns-clause-splits : goal.returns-clause-splits
returns-clause-splits c =
    let at = c.args.at.0 in
    let m2 = c.divide.new.code in
    let zero = c.in_ok-zero.zero in
    let q = c.in_ok-quotient.quotient in
    let r = c.in_ok-quotient.remainder in
    let less : Operates Less zero.0 at (with_variable (Constant (pos 0)) m2)
    c.select_relation.new.code r.0 zero.0 c.in_ok-negative.negative.0 =
    subst (λ (z : VProc). Operates Less zero.0 at z c.select_relation.new.code r.0 zero.0
    c.in_ok-negative.negative.0) c.in_ok-zero.ensures.made c.in_ok-negative.ensures.operates in
    splits at c.args.code.now c.check_divisor.new.code m2 c.select_relation.new.code
    c.args.dividend.0 c.args.divisor.0 zero
    (record { quotient = q; remainder = r; negative = c.in_ok-negative.negative })
    c.in_ok-check_divisor.ensures.checks c.in_ok-quotient.ensures.divides
    c.in_ok-zero.ensures.number less c.requires.dividend c.requires.divisor

pub returns-clause-valid : goal.returns-clause-valid
returns-clause-valid c = λ plain apart.
    let m2 = c.divide.new.code in
    split_valid c.args.at.0 c.args.code.now c.check_divisor.new.code m2 c.select_relation.new.code
    c.args.dividend.0 c.args.divisor.0
    c.in_ok-check_divisor.ensures.valid (λ p. c.in_ok-quotient.ensures.valid p apart)
    (ap (λ (ks : List VarKind). slice_index_or ks c.args.dividend.0 Plain)
    c.in_ok-check_divisor.ensures.vars ∙ plain)
    (subst (λ (z : VProc). StaysValid z c.select_relation.new.code) c.in_ok-zero.ensures.made
    c.in_ok-negative.ensures.valid)

pub returns-clause-reads : goal.returns-clause-reads
returns-clause-reads c =
    let at = c.args.at.0 in
    let m2 = c.divide.new.code in
    let zero = c.in_ok-zero.zero in
    let q = c.in_ok-quotient.quotient in
    let r = c.in_ok-quotient.remainder in
    let reads : ReadsOperands zero.0 at (with_variable (Constant (pos 0)) m2)
    c.select_relation.new.code r.0 zero.0 c.in_ok-negative.negative.0 =
    subst (λ (z : VProc). ReadsOperands zero.0 at z c.select_relation.new.code r.0 zero.0
    c.in_ok-negative.negative.0) c.in_ok-zero.ensures.made c.in_ok-negative.ensures.reads in
    split_reads at c.args.code.now c.check_divisor.new.code m2 c.select_relation.new.code
    c.args.dividend.0 c.args.divisor.0 zero
    (record { quotient = q; remainder = r; negative = c.in_ok-negative.negative })
    c.in_ok-check_divisor.ensures.vars c.in_ok-check_divisor.ensures.reads
    c.in_ok-quotient.ensures.reads c.in_ok-quotient.ensures.divides c.in_ok-zero.ensures.number
    reads c.requires.dividend c.requires.divisor

pub returns-clause-counts : goal.returns-clause-counts
returns-clause-counts c =
    split_adds c.args.code.now c.check_divisor.new.code c.divide.new.code c.select_relation.new.code
    c.in_ok-check_divisor.ensures.counts c.in_ok-quotient.ensures.counts
    (subst (λ (z : VProc). AddsAtMost 1 1 0 0 z c.select_relation.new.code)
    c.in_ok-zero.ensures.made c.in_ok-negative.ensures.counts)
