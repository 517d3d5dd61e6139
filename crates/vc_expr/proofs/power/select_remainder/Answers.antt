use Rattle.std.proofs.Common.{◌≡◌, pos, ap, ◌∙◌, subst}
use Rattle.std.specs.Prelude.{◌-ℤ◌}
use Rattle.pra_base.specs.declared.code.VarKind.TheVariants.{Constant}
use Rattle.pra_base.specs.declared.code.VProc.{VProc}
use Rattle.vc_build.specs.Grow.{with_variable}
use Rattle.vc_expr.specs.Operators.{Combines}
use Rattle.vc_expr.specs.Division.{AnySides, in_common}
use Rattle.vc_expr.specs.Rules.{StaysValid}
use Rattle.vc_expr.specs.Readable.{ReadsOperands}
use Rattle.vc_expr.specs.Counts.{OperationAdds}
use Rattle.vc_expr.proofs.Added.{same_valid, constant_valid, valid_on}
use Rattle.vc_expr.proofs.ByPowers.{is_positive, less_fits, bits_read, remainder_converts}
use Rattle.vc_expr.proofs.Counting.{with_constant}
use Rattle.vc_expr.proofs.power.select_remainder.Goals as goal

pub low_bits-requires : goal.low_bits-requires
low_bits-requires c = is_positive c.args.power.number c.requires.power

pub returns-clause-converts : goal.returns-clause-converts
returns-clause-converts c =
    let old = c.args.code.now in
    let mask = c.in_ok-mask.mask in
    let made : c.declare.new.code ≡ with_variable (Constant (c.args.power.number -ℤ pos 1)) old =
    c.in_ok-mask.ensures.made ∙ ap (λ k. with_variable k old) c.low_bits.ensures in
    remainder_converts c.args.first c.args.at.0 old c.select_and.new.code c.args.power.number
    c.args.operand.0 c.in_ok-low.low.0 mask c.in_ok-mask.ensures.number c.requires.power
    (subst (λ (z : VProc). Combines AnySides in_common c.args.first c.args.at.0 z
    c.select_and.new.code c.args.operand.0 mask.0 c.in_ok-low.low.0) made
    c.in_ok-low.ensures.combines)

pub returns-clause-valid : goal.returns-clause-valid
returns-clause-valid c =
    let old = c.args.code.now in
    let before : VProc = with_variable (Constant (c.args.power.number -ℤ pos 1)) old in
    let made : c.declare.new.code ≡ before = c.in_ok-mask.ensures.made
    ∙ ap (λ k. with_variable k old) c.low_bits.ensures in
    valid_on old before c.select_and.new.code
    (constant_valid (c.args.power.number -ℤ pos 1) old old (same_valid old))
    (subst (λ (z : VProc). StaysValid z c.select_and.new.code) made c.in_ok-low.ensures.valid)

pub returns-clause-reads : goal.returns-clause-reads
returns-clause-reads c =
    let old = c.args.code.now in
    let mask = c.in_ok-mask.mask in
    let v = c.in_ok-low.low.0 in
    let made : c.declare.new.code ≡ with_variable (Constant (c.args.power.number -ℤ pos 1)) old =
    c.in_ok-mask.ensures.made ∙ ap (λ k. with_variable k old) c.low_bits.ensures in
    bits_read c.args.first c.args.at.0 old c.select_and.new.code (c.args.power.number -ℤ pos 1)
    c.args.operand.0 v mask c.in_ok-mask.ensures.number
    (less_fits c.args.power.number c.requires.power)
    (subst (λ (z : VProc). Combines AnySides in_common c.args.first c.args.at.0 z
    c.select_and.new.code c.args.operand.0 mask.0 v) made c.in_ok-low.ensures.combines)
    (subst (λ (z : VProc). ReadsOperands c.args.first c.args.at.0 z c.select_and.new.code
    c.args.operand.0 mask.0 v) made c.in_ok-low.ensures.reads)

pub returns-clause-counts : goal.returns-clause-counts
returns-clause-counts c =
    let old = c.args.code.now in
    let made : c.declare.new.code ≡ with_variable (Constant (c.args.power.number -ℤ pos 1)) old =
    c.in_ok-mask.ensures.made ∙ ap (λ k. with_variable k old) c.low_bits.ensures in
    with_constant (c.args.power.number -ℤ pos 1) c.args.first c.args.operand.0 old c.select_and.new.code
    c.requires.operand
    (subst (λ (z : VProc). OperationAdds 1 0 0 c.args.first c.args.operand.0 z
    c.select_and.new.code) made c.in_ok-low.ensures.counts)
