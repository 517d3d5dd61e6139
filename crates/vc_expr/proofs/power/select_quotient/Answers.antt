use Rattle.std.proofs.Common.{sym, subst, arith}
use Rattle.vc_expr.specs.Division.{quotient_by}
use Rattle.vc_expr.specs.Operators.{Converts}
use Rattle.vc_expr.proofs.ByPowers.{start_converts, reads_first}
use Rattle.vc_expr.proofs.Counting.{weaker}
use Rattle.vc_expr.proofs.power.select_quotient.Goals as goal

pub returns-then-is_one-clause-converts : goal.returns-then-is_one-clause-converts
returns-then-is_one-clause-converts c =
    subst (λ d. Converts (quotient_by d) c.args.first c.args.at.0 c.args.code.now c.start.new.code
    c.args.operand.0 c.in_ok-whole.whole.0) (sym (c.is_one.ensures.yes c.if-is_one.true))
    (start_converts c.args.first c.args.at.0 c.args.code.now c.start.new.code c.args.operand.0
    c.in_ok-whole.whole.0 c.in_ok-whole.ensures.begins c.requires.first)

pub returns-then-is_one-clause-counts : goal.returns-then-is_one-clause-counts
returns-then-is_one-clause-counts c = weaker 0 0 0 1 0 0 c.args.first c.args.operand.0
    c.args.code.now c.start.new.code (omega arith) (omega arith) (omega arith)
    c.in_ok-whole.ensures.counts

pub returns-then-is_one-clause-reads : goal.returns-then-is_one-clause-reads
returns-then-is_one-clause-reads c = reads_first c.args.first c.args.at.0 c.args.code.now
    c.start.new.code c.args.operand.0 c.in_ok-whole.whole.0 c.requires.first
    c.in_ok-whole.ensures.reads
