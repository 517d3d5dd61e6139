use Rattle.std.proofs.Common.{◌≡◌, length, ap, sym, ◌∙◌, subst, arith}
use Rattle.std.proofs.lemmas.List.{get_or_read}
use Rattle.pra_base.specs.Code.{kind_of}
use Rattle.pra_base.specs.declared.code.VarKind.TheVariants.{Plain}
use Rattle.pra_base.specs.declared.code.VProc.{VProc}
use Rattle.vc_expr.specs.Division.{is_tested, Checks}
use Rattle.vc_expr.proofs.Divisions.{check_checks, known_checks}
use Rattle.vc_expr.specs.Rules.{StaysValid}
use Rattle.vc_expr.specs.Readable.{ReadsOperands}
use Rattle.vc_expr.proofs.Added.{check_valid}
use Rattle.vc_expr.proofs.Published.{check_publishes, same_publishes}
use Rattle.vc_expr.specs.Counts.{AddsAtMost}
use Rattle.vc_expr.proofs.Counting.{adds_none, adds_more, put_adds}
use Rattle.pra_base.specs.declared.code.VInstr.TheVariants.{CheckPos}
use Rattle.vc_expr.proofs.division.check_divisor.Goals as goal

pub returns-in_ok-put-clause-checks : goal.returns-in_ok-put-clause-checks
returns-in_ok-put-clause-checks c =
    subst (λ (z : VProc). Checks c.args.at.0 c.args.code.now z c.args.divisor.0)
    (sym c.in_ok-put.ensures)
    (check_checks c.args.at.0 c.args.code.now c.args.divisor c.requires.is_open)

pub returns-else-is_tested-clause-checks : goal.returns-else-is_tested-clause-checks
returns-else-is_tested-clause-checks c =
    let old = c.args.code.now in
    let kind = c.index.result.now in
    let is : kind ≡ kind_of old c.args.divisor.0 = get_or_read old.vars c.args.divisor.0 kind
    c.requires.divisor c.index.ensures Plain in
    known_checks c.args.at.0 old c.args.divisor.0 c.requires.is_open c.requires.divisor
    (λ n e. c.is_tested.ensures.fits n (is ∙ e))
    (ap is_tested (sym is) ∙ sym c.is_tested.ensures.tested ∙ c.if-is_tested.false)

pub returns-in_ok-put-clause-valid : goal.returns-in_ok-put-clause-valid
returns-in_ok-put-clause-valid c =
    subst (λ (z : VProc). StaysValid c.args.code.now z) (sym c.in_ok-put.ensures)
    (check_valid c.args.at.0 c.args.code.now c.args.divisor c.requires.is_open
    c.requires.divisor)

pub returns-in_ok-put-clause-reads : goal.returns-in_ok-put-clause-reads
returns-in_ok-put-clause-reads c =
    let old = c.args.code.now in
    subst (λ (z : VProc). ReadsOperands (length old.vars) c.args.at.0 old z c.args.divisor.0
    c.args.divisor.0 c.args.divisor.0) (sym c.in_ok-put.ensures)
    (check_publishes c.args.at.0 old c.args.divisor c.requires.is_open)

pub returns-else-is_tested-clause-reads : goal.returns-else-is_tested-clause-reads
returns-else-is_tested-clause-reads c = same_publishes c.args.at.0 c.args.code.now
    (length c.args.code.now.vars) c.args.divisor.0

pub returns-in_ok-put-clause-counts : goal.returns-in_ok-put-clause-counts
returns-in_ok-put-clause-counts c =
    subst (λ (z : VProc). AddsAtMost 1 0 0 0 c.args.code.now z) (sym c.in_ok-put.ensures)
    (put_adds c.args.at.0 (CheckPos c.args.divisor) c.args.code.now c.requires.is_open)

pub returns-else-is_tested-clause-counts : goal.returns-else-is_tested-clause-counts
returns-else-is_tested-clause-counts c = adds_more 0 0 0 0 1 0 0 0 c.args.code.now c.args.code.now
    (omega arith) (omega arith) (omega arith) (omega arith) (adds_none c.args.code.now)
