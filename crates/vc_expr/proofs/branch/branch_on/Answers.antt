use Rattle.std.proofs.Common.{subst, pos}
use Rattle.pra_base.specs.declared.code.VProc.{VProc}
use Rattle.ob_syntax.specs.declared.checked.ROp.TheVariants.{Unequal}
use Rattle.vc_expr.specs.Branches.{BranchesBy}
use Rattle.vc_expr.proofs.Branching.{branches_on}
use Rattle.vc_expr.specs.Rules.{StaysValid}
use Rattle.vc_expr.specs.Readable.{ReadsSides}
use Rattle.vc_expr.proofs.Whole.{sides_valid, sides_read}
use Rattle.vc_expr.specs.Counts.{AddsAtMost}
use Rattle.vc_expr.proofs.Counting.{branch_adds}
use Rattle.vc_expr.proofs.branch.branch_on.Goals as goal

pub returns-clause-branches : goal.returns-clause-branches
returns-clause-branches c =
    let zero = c.in_ok-zero.zero in
    branches_on c.args.at.0 c.args.code.now c.branch_by.new.code c.args.v.0 c.args.targets zero
    c.in_ok-zero.ensures.number
    (subst (λ (z : VProc). BranchesBy Unequal c.args.at.0 z c.branch_by.new.code c.args.v.0 zero.0
    c.args.targets) c.in_ok-zero.ensures.made c.in_ok-branch_by.ensures.branches)

pub returns-clause-valid : goal.returns-clause-valid
returns-clause-valid c = λ holds_some fails_some.
    sides_valid c.args.code.now c.branch_by.new.code
    (subst (λ (z : VProc). StaysValid z c.branch_by.new.code) c.in_ok-zero.ensures.made
    (c.in_ok-branch_by.ensures.valid holds_some fails_some))

pub returns-clause-reads : goal.returns-clause-reads
returns-clause-reads c =
    let zero = c.in_ok-zero.zero in
    sides_read c.args.at.0 c.args.code.now c.branch_by.new.code c.args.v.0 zero c.args.targets
    c.in_ok-zero.ensures.number
    (subst (λ (z : VProc). ReadsSides c.args.at.0 z c.branch_by.new.code c.args.v.0 zero.0
    c.args.targets) c.in_ok-zero.ensures.made c.in_ok-branch_by.ensures.reads)

pub returns-clause-counts : goal.returns-clause-counts
returns-clause-counts c =
    branch_adds (pos 0) c.args.code.now c.branch_by.new.code
    (subst (λ (z : VProc). AddsAtMost 1 0 0 0 z c.branch_by.new.code) c.in_ok-zero.ensures.made
    c.in_ok-branch_by.ensures.counts)

pub returns-clause-closed : goal.returns-clause-closed
returns-clause-closed c = c.in_ok-branch_by.ensures.closed
