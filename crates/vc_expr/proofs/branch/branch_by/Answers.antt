use Rattle.std.proofs.Common.{◌≡◌, ◌≢◌, ap, sym, ◌∙◌, subst}
use Rattle.pra_base.specs.Code.{end_of}
use Rattle.pra_base.specs.declared.code.VInstr.TheVariants.{Cmp}
use Rattle.pra_base.specs.declared.code.End.TheVariants.{Branch}
use Rattle.pra_base.specs.declared.code.Block.{Block}
use Rattle.pra_base.specs.declared.code.VProc.{VProc}
use Rattle.vc_build.specs.Grow.{stand_in, with_instr, with_end}
use Rattle.vc_build.proofs.Growth.{put_open, closed_block}
use Rattle.vc_build.proofs.Open.{branch_real, closed_real}
use Rattle.vc_expr.specs.Branches.{BranchesBy, LeadsOnlyTo}
use Rattle.vc_expr.proofs.Branching.{branches_by}
use Rattle.vc_expr.specs.Rules.{StaysValid}
use Rattle.vc_expr.specs.Readable.{ReadsSides}
use Rattle.vc_expr.proofs.Added.{branch_valid}
use Rattle.vc_expr.proofs.Published.{branch_publishes}
use Rattle.vc_expr.specs.Counts.{AddsAtMost}
use Rattle.vc_expr.proofs.Counting.{put_close_adds}
use Rattle.vc_expr.proofs.branch.branch_by.Goals as goal

pub returns-clause-branches : goal.returns-clause-branches
returns-clause-branches c =
    let at = c.args.at.0 in
    let old = c.args.code.now in
    let targets = c.args.targets in
    let k = c.condition_of.result in
    let made : c.close.new.code ≡ with_end at (Branch k targets.holds targets.fails)
    (with_instr at (Cmp c.args.left c.args.right) old) =
    c.close.ensures ∙ ap (with_end at (Branch k targets.holds targets.fails)) c.in_ok-put.ensures in
    subst (λ (z : VProc). BranchesBy c.args.op at old z c.args.left.0 c.args.right.0 targets)
    (sym made)
    (branches_by at old k c.args.left c.args.right targets c.requires.is_open c.requires.holds
    c.requires.fails c.args.op c.requires.op c.condition_of.ensures)

pub returns-clause-valid : goal.returns-clause-valid
returns-clause-valid c = λ holds_some fails_some.
    let at = c.args.at.0 in
    let old = c.args.code.now in
    let targets = c.args.targets in
    let k = c.condition_of.result in
    let made : c.close.new.code ≡ with_end at (Branch k targets.holds targets.fails)
    (with_instr at (Cmp c.args.left c.args.right) old) =
    c.close.ensures ∙ ap (with_end at (Branch k targets.holds targets.fails)) c.in_ok-put.ensures in
    subst (λ (z : VProc). StaysValid old z) (sym made)
    (branch_valid at old k c.args.left c.args.right targets.holds targets.fails c.requires.is_open
    c.requires.left c.requires.right c.requires.holds c.requires.fails holds_some fails_some)

pub returns-clause-reads : goal.returns-clause-reads
returns-clause-reads c =
    let at = c.args.at.0 in
    let old = c.args.code.now in
    let targets = c.args.targets in
    let k = c.condition_of.result in
    let made : c.close.new.code ≡ with_end at (Branch k targets.holds targets.fails)
    (with_instr at (Cmp c.args.left c.args.right) old) =
    c.close.ensures ∙ ap (with_end at (Branch k targets.holds targets.fails)) c.in_ok-put.ensures in
    subst (λ (z : VProc). ReadsSides at old z c.args.left.0 c.args.right.0 targets) (sym made)
    (branch_publishes at old k c.args.left c.args.right targets c.requires.is_open)

pub returns-clause-counts : goal.returns-clause-counts
returns-clause-counts c =
    let at = c.args.at.0 in
    let old = c.args.code.now in
    let end = Branch c.condition_of.result c.args.targets.holds c.args.targets.fails in
    let i = Cmp c.args.left c.args.right in
    let made : c.close.new.code ≡ with_end at end (with_instr at i old) = c.close.ensures
    ∙ ap (with_end at end) c.in_ok-put.ensures in
    subst (λ (z : VProc). AddsAtMost 1 0 0 0 old z) (sym made)
    (put_close_adds at i end old c.requires.is_open)

pub returns-clause-closed : goal.returns-clause-closed
returns-clause-closed c =
    let at = c.args.at.0 in
    let old = c.args.code.now in
    let targets = c.args.targets in
    let k = c.condition_of.result in
    let i = Cmp c.args.left c.args.right in
    let made : c.close.new.code ≡ with_end at (Branch k targets.holds targets.fails)
    (with_instr at i old) =
    c.close.ensures ∙ ap (with_end at (Branch k targets.holds targets.fails)) c.in_ok-put.ensures in
    subst (λ (z : VProc). end_of z at ≢ stand_in) (sym made)
    (closed_real at (Branch k targets.holds targets.fails) (with_instr at i old)
    (put_open at i old c.requires.is_open) (branch_real k targets.holds targets.fails))

pub returns-clause-leads : goal.returns-clause-leads
returns-clause-leads c =
    let at = c.args.at.0 in
    let old = c.args.code.now in
    let targets = c.args.targets in
    let end = Branch c.condition_of.result targets.holds targets.fails in
    let i = Cmp c.args.left c.args.right in
    let made : c.close.new.code ≡ with_end at end (with_instr at i old) = c.close.ensures
    ∙ ap (with_end at end) c.in_ok-put.ensures in
    let is : end_of c.close.new.code at ≡ end =
    ap (λ (z : VProc). end_of z at) made ∙ ap (λ (x : Block). x.end)
    (closed_block at end (with_instr at i old) (put_open at i old c.requires.is_open)) in
    subst (LeadsOnlyTo targets) (sym is) (λ t target. target)
