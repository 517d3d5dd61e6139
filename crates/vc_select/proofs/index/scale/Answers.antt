use Rattle.std.proofs.Common.{◌≡◌, inl, inr, refl, ap, sym, ◌∙◌, subst, arith}
use Rattle.std.specs.Prelude.{pos}
use Rattle.std.specs.Int.{w32}
use Rattle.std.proofs.lemmas.Int.{to_z-of_z}
use Rattle.pra_base.specs.Words.{word, signed}
use Rattle.ob_syntax.specs.declared.checked.ROp.TheVariants.{Mul}
use Rattle.pra_base.specs.declared.code.VarKind.TheVariants.{Constant}
use Rattle.pra_base.specs.declared.code.VProc.{VProc}
use Rattle.vc_build.specs.Grow.{with_variable}
use Rattle.vc_expr.specs.Operators.{Operates}
use Rattle.vc_select.specs.Indexes.{Scales}
use Rattle.vc_expr.specs.Counts.{OperationAdds}
use Rattle.vc_expr.specs.Readable.{ReadsOperands}
use Rattle.vc_expr.specs.Rules.{StaysValid}
use Rattle.vc_expr.proofs.Added.{same_valid}
use Rattle.vc_expr.proofs.Counting.{adds_none, adds_more}
use Rattle.vc_select.proofs.Counting.{scales_nothing, scales_by, fits_count}
use Rattle.vc_select.proofs.ReadyTargets.{no_operand, product_reads, product_valid, product_adds}
use Rattle.vc_select.proofs.index.scale.Goals as goal

pub returns-then-words-eq1-clause-scales : goal.returns-then-words-eq1-clause-scales
returns-then-words-eq1-clause-scales c =
    subst (λ n. Scales c.args.first c.args.at.0 c.args.code.now c.args.code.now c.args.index.0 n
    c.args.index.0) (sym c.if-words-eq1.true)
    (scales_nothing c.args.first c.args.at.0 c.args.code.now c.args.index.0 c.requires.is_open
    c.requires.index)

pub returns-clause-scales : goal.returns-clause-scales
returns-clause-scales c =
    let old = c.args.code.now in
    let made : c.constant.new.code ≡ with_variable (Constant (pos c.args.words)) old =
    c.in_ok-factor.ensures.made
    ∙ ap (λ n. with_variable (Constant (signed (word n))) old) c.in_ok-number.ensures.is
    ∙ ap (λ n. with_variable (Constant n) old)
    (to_z-of_z w32 (pos c.args.words) (fits_count c.args.words c.in_ok-number.ensures.small)) in
    scales_by c.args.first c.args.at.0 old c.select_arithmetic.new.code c.args.index.0
    c.in_ok-factor.factor.0 c.args.words c.in_ok-v.v.0 c.in_ok-number.ensures.small
    c.in_ok-factor.ensures.number c.requires.first
    (subst (λ (z : VProc). Operates Mul c.args.first c.args.at.0 z c.select_arithmetic.new.code
    c.args.index.0 c.in_ok-factor.factor.0 c.in_ok-v.v.0) made c.in_ok-v.ensures.operates)

pub returns-then-words-eq1-clause-counts : goal.returns-then-words-eq1-clause-counts
returns-then-words-eq1-clause-counts c = adds_more 0 0 0 0 2 1 1 0 c.args.code.now c.args.code.now
    (omega arith) (omega arith) (omega arith) (omega arith) (adds_none c.args.code.now)

pub returns-then-words-eq1-clause-valid : goal.returns-then-words-eq1-clause-valid
returns-then-words-eq1-clause-valid c = same_valid c.args.code.now

pub returns-then-words-eq1-clause-reads : goal.returns-then-words-eq1-clause-reads
returns-then-words-eq1-clause-reads c = no_operand c.args.first c.args.at.0 c.args.code.now
    c.args.index.0

pub returns-then-words-eq1-clause-fresh : goal.returns-then-words-eq1-clause-fresh
returns-then-words-eq1-clause-fresh c = inl refl

pub returns-clause-counts : goal.returns-clause-counts
returns-clause-counts c =
    product_adds (signed (word c.in_ok-number.number)) c.args.code.now c.select_arithmetic.new.code
    c.args.first c.args.index.0
    (subst (λ (z : VProc). OperationAdds 1 0 0 c.args.first c.args.index.0 z
    c.select_arithmetic.new.code) c.in_ok-factor.ensures.made c.in_ok-v.ensures.counts)

pub returns-clause-valid : goal.returns-clause-valid
returns-clause-valid c =
    product_valid c.args.code.now c.select_arithmetic.new.code (signed (word c.in_ok-number.number))
    (subst (λ (z : VProc). StaysValid z c.select_arithmetic.new.code) c.in_ok-factor.ensures.made
    c.in_ok-v.ensures.valid)

pub returns-clause-reads : goal.returns-clause-reads
returns-clause-reads c =
    product_reads c.args.first c.args.at.0 c.args.code.now c.select_arithmetic.new.code
    (signed (word c.in_ok-number.number)) c.args.index.0 c.in_ok-factor.factor.0 c.in_ok-v.v.0
    c.in_ok-factor.ensures.number c.requires.first
    (subst (λ (z : VProc). ReadsOperands c.args.first c.args.at.0 z c.select_arithmetic.new.code
    c.args.index.0 c.in_ok-factor.factor.0 c.in_ok-v.v.0) c.in_ok-factor.ensures.made
    c.in_ok-v.ensures.reads)

pub returns-clause-fresh : goal.returns-clause-fresh
returns-clause-fresh c = inr c.in_ok-v.ensures.operates.adds.above
