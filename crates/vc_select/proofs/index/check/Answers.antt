use Rattle.std.proofs.Common.{◌≡◌, length, ap, sym, ◌∙◌, subst}
use Rattle.std.specs.Prelude.{pos}
use Rattle.std.specs.Int.{w32}
use Rattle.std.proofs.lemmas.Int.{to_z-of_z}
use Rattle.pra_base.specs.Words.{word, signed}
use Rattle.pra_base.specs.declared.code.VInstr.TheVariants.{Check}
use Rattle.pra_base.specs.declared.code.VProc.{VProc}
use Rattle.vc_build.specs.Grow.{with_instr}
use Rattle.vc_select.specs.Indexes.{Checks}
use Rattle.vc_expr.specs.Counts.{AddsAtMost}
use Rattle.vc_expr.specs.Readable.{ReadsOperands}
use Rattle.vc_expr.specs.Rules.{StaysValid}
use Rattle.vc_expr.proofs.Counting.{put_adds}
use Rattle.vc_select.proofs.Counting.{checks, fits_count}
use Rattle.vc_select.proofs.ReadyTargets.{check_valid, check_reads, count_in_range}
use Rattle.vc_select.proofs.index.check.Goals as goal

pub returns-clause-checks : goal.returns-clause-checks
returns-clause-checks c =
    let made : c.put_check.new.code ≡ with_instr c.args.at.0 (Check c.args.index (pos c.args.count))
    c.args.code.now =
    c.in_ok-put_check.ensures
    ∙ ap (λ n. with_instr c.args.at.0 (Check c.args.index (signed (word n))) c.args.code.now)
    c.in_ok-bound.ensures.is
    ∙ ap (λ n. with_instr c.args.at.0 (Check c.args.index n) c.args.code.now)
    (to_z-of_z w32 (pos c.args.count) (fits_count c.args.count c.in_ok-bound.ensures.small)) in
    subst (λ (z : VProc). Checks c.args.at.0 c.args.code.now z c.args.index.0 c.args.count)
    (sym made)
    (checks c.args.at.0 c.args.code.now c.args.index c.args.count c.requires)

pub returns-clause-counts : goal.returns-clause-counts
returns-clause-counts c =
    let made : c.put_check.new.code ≡ with_instr c.args.at.0 (Check c.args.index (pos c.args.count))
    c.args.code.now =
    c.in_ok-put_check.ensures
    ∙ ap (λ n. with_instr c.args.at.0 (Check c.args.index (signed (word n))) c.args.code.now)
    c.in_ok-bound.ensures.is
    ∙ ap (λ n. with_instr c.args.at.0 (Check c.args.index n) c.args.code.now)
    (to_z-of_z w32 (pos c.args.count) (fits_count c.args.count c.in_ok-bound.ensures.small)) in
    subst (λ (z : VProc). AddsAtMost 1 0 0 0 c.args.code.now z) (sym made)
    (put_adds c.args.at.0 (Check c.args.index (pos c.args.count)) c.args.code.now c.requires)

pub returns-clause-valid : goal.returns-clause-valid
returns-clause-valid c = λ named.
    let made : c.put_check.new.code ≡ with_instr c.args.at.0 (Check c.args.index (pos c.args.count))
    c.args.code.now =
    c.in_ok-put_check.ensures
    ∙ ap (λ n. with_instr c.args.at.0 (Check c.args.index (signed (word n))) c.args.code.now)
    c.in_ok-bound.ensures.is
    ∙ ap (λ n. with_instr c.args.at.0 (Check c.args.index n) c.args.code.now)
    (to_z-of_z w32 (pos c.args.count) (fits_count c.args.count c.in_ok-bound.ensures.small)) in
    subst (λ (z : VProc). StaysValid c.args.code.now z) (sym made)
    (check_valid c.args.at.0 c.args.code.now c.args.index (pos c.args.count) c.requires named
    (count_in_range c.args.count c.in_ok-bound.ensures.small))

pub returns-clause-reads : goal.returns-clause-reads
returns-clause-reads c =
    let made : c.put_check.new.code ≡ with_instr c.args.at.0 (Check c.args.index (pos c.args.count))
    c.args.code.now =
    c.in_ok-put_check.ensures
    ∙ ap (λ n. with_instr c.args.at.0 (Check c.args.index (signed (word n))) c.args.code.now)
    c.in_ok-bound.ensures.is
    ∙ ap (λ n. with_instr c.args.at.0 (Check c.args.index n) c.args.code.now)
    (to_z-of_z w32 (pos c.args.count) (fits_count c.args.count c.in_ok-bound.ensures.small)) in
    subst (λ (z : VProc). ReadsOperands (length c.args.code.now.vars) c.args.at.0 c.args.code.now z
    c.args.index.0 c.args.index.0 c.args.index.0) (sym made)
    (check_reads c.args.at.0 c.args.code.now c.args.index (pos c.args.count) c.requires)
