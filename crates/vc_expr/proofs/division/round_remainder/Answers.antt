use Rattle.std.proofs.Common.{◌≡◌, ◌<◌, length, ◌∙◌, arith}
use Rattle.pra_base.specs.Code.{kind_of}
use Rattle.pra_base.specs.declared.code.VarKind.TheVariants.{Plain}
use Rattle.vc_expr.proofs.Rounding.{masks_combine, rounds}
use Rattle.vc_expr.proofs.Added.{valid_on}
use Rattle.vc_expr.proofs.Whole.{rounding_reads}
use Rattle.vc_expr.proofs.Counting.{three_adds, on_temporary}
use Rattle.vc_expr.proofs.division.round_remainder.Goals as goal

pub returns-clause-rounds : goal.returns-clause-rounds
returns-clause-rounds c =
    rounds c.args.at.0 c.args.code.now c.select_negation.new.code c.select_and.new.code
    c.select_arithmetic.new.code c.args.parts.remainder.0 c.args.parts.negative.0
    c.args.divisor.0
    c.in_ok-mask.mask.0 c.in_ok-added.added.0 c.in_ok-rounded.rounded.0
    c.in_ok-mask.ensures.converts
    (masks_combine c.args.parts.negative.0 c.args.at.0 c.select_negation.new.code
    c.select_and.new.code c.in_ok-mask.mask.0 c.args.divisor.0 c.in_ok-added.added.0
    c.in_ok-added.ensures.combines)
    c.in_ok-rounded.ensures.operates c.requires.divisor c.requires.remainder

pub returns-clause-valid : goal.returns-clause-valid
returns-clause-valid c =
    valid_on c.args.code.now c.select_negation.new.code c.select_arithmetic.new.code
    c.in_ok-mask.ensures.valid
    (valid_on c.select_negation.new.code c.select_and.new.code c.select_arithmetic.new.code
    c.in_ok-added.ensures.valid c.in_ok-rounded.ensures.valid)

pub returns-clause-reads : goal.returns-clause-reads
returns-clause-reads c =
    rounding_reads c.args.at.0 c.args.code.now c.select_negation.new.code c.select_and.new.code
    c.select_arithmetic.new.code c.args.parts c.args.divisor.0 c.in_ok-mask.mask.0
    c.in_ok-added.added.0 c.in_ok-rounded.rounded.0
    c.in_ok-mask.ensures.reads c.in_ok-added.ensures.reads c.in_ok-rounded.ensures.reads
    c.requires.divisor c.requires.remainder

pub returns-clause-counts : goal.returns-clause-counts
returns-clause-counts c = λ negative_plain remainder_plain.
    let n = c.args.parts.negative.0 in
    let r = c.args.parts.remainder.0 in
    let old = c.args.code.now in
    let m1 = c.select_negation.new.code in
    let m2 = c.select_and.new.code in
    let there : r < length m1.vars =
    omega (arith, c.requires.remainder, c.requires.negative, c.in_ok-mask.ensures.vars) in
    let plain : kind_of m2 r ≡ Plain =
    c.in_ok-added.ensures.combines.adds.grows.grows.kinds r there
    ∙ c.in_ok-mask.ensures.converts.adds.grows.grows.kinds r
    (omega (arith, c.requires.remainder, c.requires.negative)) ∙ remainder_plain in
    three_adds old m1 m2 c.select_arithmetic.new.code
    (on_temporary 1 0 0 n n old m1 negative_plain (omega arith) c.in_ok-mask.ensures.counts)
    (on_temporary 1 0 0 n c.in_ok-mask.mask.0 m1 m2 c.in_ok-mask.ensures.converts.adds.plain
    c.in_ok-mask.ensures.converts.adds.above c.in_ok-added.ensures.counts)
    (on_temporary 1 0 0 r r m2 c.select_arithmetic.new.code plain (omega arith)
    c.in_ok-rounded.ensures.counts)
