use Rattle.std.proofs.Common.{sym, subst, Option, arith}
use Rattle.pra_base.specs.declared.ids.VarId.{VarId}
use Rattle.vc_select.specs.Indexes.{Sums}
use Rattle.vc_select.specs.Certified.{ReadsIndex}
use Rattle.vc_expr.proofs.Added.{same_valid}
use Rattle.vc_expr.proofs.Counting.{adds_none, adds_more}
use Rattle.vc_select.proofs.Counting.{sums_on}
use Rattle.vc_select.proofs.Nodes.{operation_most}
use Rattle.vc_select.proofs.ReadyTargets.{sum_none, sum_some}
use Rattle.vc_select.proofs.index.sum.Goals as goal

pub returns-clause-sums : goal.returns-clause-sums
returns-clause-sums c =
    subst (λ (z : Option VarId). Sums c.args.first c.args.at.0 c.args.code.now
    c.select_arithmetic.new.code z c.args.index.0 c.in_ok-v.v.0) (sym c.in-Some.is)
    (sums_on c.args.first c.args.at.0 c.args.code.now c.select_arithmetic.new.code c.in-Some.left
    c.args.index.0 c.in_ok-v.v.0 c.in_ok-v.ensures.operates)

pub returns-in_default-clause-counts : goal.returns-in_default-clause-counts
returns-in_default-clause-counts c = adds_more 0 0 0 0 2 1 0 0 c.args.code.now c.args.code.now
    (omega arith) (omega arith) (omega arith) (omega arith) (adds_none c.args.code.now)

pub returns-in_default-clause-valid : goal.returns-in_default-clause-valid
returns-in_default-clause-valid c = same_valid c.args.code.now

pub returns-in_default-clause-reads : goal.returns-in_default-clause-reads
returns-in_default-clause-reads c =
    subst (λ (z : Option VarId). ReadsIndex c.args.first c.args.at.0 c.args.code.now c.args.code.now
    z c.args.index.0 c.args.index.0) (sym c.in_default.is)
    (sum_none c.args.first c.args.at.0 c.args.code.now c.args.index.0)

pub returns-clause-counts : goal.returns-clause-counts
returns-clause-counts c = operation_most 1 0 0 c.args.first c.in-Some.left.0 c.args.code.now
    c.select_arithmetic.new.code c.in_ok-v.ensures.counts

pub returns-clause-reads : goal.returns-clause-reads
returns-clause-reads c =
    subst (λ (z : Option VarId). ReadsIndex c.args.first c.args.at.0 c.args.code.now
    c.select_arithmetic.new.code z c.args.index.0 c.in_ok-v.v.0) (sym c.in-Some.is)
    (sum_some c.args.first c.args.at.0 c.args.code.now c.select_arithmetic.new.code c.in-Some.left
    c.args.index.0 c.in_ok-v.v.0 c.in_ok-v.ensures.operates.adds.above c.in_ok-v.ensures.reads)
