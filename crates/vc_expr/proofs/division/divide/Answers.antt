use Rattle.std.proofs.Common.{◌≡◌, length, sym, ap, ◌∙◌, subst}
use Rattle.pra_base.specs.declared.code.VarKind.TheVariants.{Plain}
use Rattle.pra_base.specs.declared.code.VInstr.TheVariants.{DivMod}
use Rattle.pra_base.specs.declared.code.VProc.{VProc}
use Rattle.vc_build.specs.Grow.{with_instr, with_variable}
use Rattle.vc_expr.specs.Division.{Divides}
use Rattle.vc_expr.proofs.Divisions.{divides}
use Rattle.vc_expr.specs.Rules.{StaysValid}
use Rattle.vc_expr.specs.Readable.{ReadsDivision}
use Rattle.vc_expr.proofs.Added.{divide_valid}
use Rattle.vc_expr.proofs.Published.{divide_reads}
use Rattle.vc_expr.specs.Counts.{AddsAtMost}
use Rattle.vc_expr.proofs.Counting.{divide_adds}
use Rattle.vc_expr.proofs.division.divide.Goals as goal

pub returns-clause-divides : goal.returns-clause-divides
returns-clause-divides c =
    let old = c.args.code.now in
    let at = c.args.at.0 in
    let q = c.in_ok-quotient.quotient in
    let r = c.in_ok-remainder.remainder in
    let i = DivMod q r c.args.dividend c.args.divisor in
    let one : c.declare.new.code ≡ with_variable Plain old = c.in_ok-quotient.ensures.made in
    let r_new : r.0 ≡ length (with_variable Plain old).vars = c.in_ok-remainder.ensures.number
    ∙ ap (λ (z : VProc). length z.vars) one in
    let made : c.put.new.code ≡ with_instr at i (with_variable Plain (with_variable Plain old)) =
    c.in_ok-put.ensures ∙ ap (with_instr at i)
    (c.in_ok-remainder.ensures.made ∙ ap (with_variable Plain) one) in
    subst (λ (z : VProc). Divides at old z c.args.dividend.0 c.args.divisor.0 q.0 r.0) (sym made)
    (divides at old q r c.args.dividend c.args.divisor c.requires.is_open
    c.in_ok-quotient.ensures.number r_new)

pub returns-clause-valid : goal.returns-clause-valid
returns-clause-valid c = λ plain apart.
    let old = c.args.code.now in
    let at = c.args.at.0 in
    let q = c.in_ok-quotient.quotient in
    let r = c.in_ok-remainder.remainder in
    let i = DivMod q r c.args.dividend c.args.divisor in
    let one : c.declare.new.code ≡ with_variable Plain old = c.in_ok-quotient.ensures.made in
    let r_new : r.0 ≡ length (with_variable Plain old).vars = c.in_ok-remainder.ensures.number
    ∙ ap (λ (z : VProc). length z.vars) one in
    let made : c.put.new.code ≡ with_instr at i (with_variable Plain (with_variable Plain old)) =
    c.in_ok-put.ensures ∙ ap (with_instr at i)
    (c.in_ok-remainder.ensures.made ∙ ap (with_variable Plain) one) in
    subst (λ (z : VProc). StaysValid old z) (sym made)
    (divide_valid at old q r c.args.dividend c.args.divisor c.requires.is_open
    c.in_ok-quotient.ensures.number r_new c.requires.dividend c.requires.divisor plain apart)

pub returns-clause-reads : goal.returns-clause-reads
returns-clause-reads c =
    let old = c.args.code.now in
    let at = c.args.at.0 in
    let q = c.in_ok-quotient.quotient in
    let r = c.in_ok-remainder.remainder in
    let i = DivMod q r c.args.dividend c.args.divisor in
    let one : c.declare.new.code ≡ with_variable Plain old = c.in_ok-quotient.ensures.made in
    let made : c.put.new.code ≡ with_instr at i (with_variable Plain (with_variable Plain old)) =
    c.in_ok-put.ensures ∙ ap (with_instr at i)
    (c.in_ok-remainder.ensures.made ∙ ap (with_variable Plain) one) in
    subst (λ (z : VProc). ReadsDivision at old z c.args.dividend.0 c.args.divisor.0 q.0 r.0)
    (sym made)
    (divide_reads at old q r c.args.dividend c.args.divisor c.requires.is_open)

pub returns-clause-counts : goal.returns-clause-counts
returns-clause-counts c =
    let old = c.args.code.now in
    let i = DivMod c.in_ok-quotient.quotient c.in_ok-remainder.remainder c.args.dividend
    c.args.divisor in
    let one : c.declare.new.code ≡ with_variable Plain old = c.in_ok-quotient.ensures.made in
    let made : c.put.new.code ≡ with_instr c.args.at.0 i
    (with_variable Plain (with_variable Plain old)) =
    c.in_ok-put.ensures ∙ ap (with_instr c.args.at.0 i)
    (c.in_ok-remainder.ensures.made ∙ ap (with_variable Plain) one) in
    subst (λ (z : VProc). AddsAtMost 1 2 0 0 old z) (sym made)
    (divide_adds c.args.at.0 i old c.requires.is_open)
