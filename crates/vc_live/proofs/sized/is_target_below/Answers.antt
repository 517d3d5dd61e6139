use Rattle.vc_live.proofs.SizedLemmas.{jump_below, branch_below, branch_past}
use Rattle.vc_live.proofs.sized.is_target_below.Goals as goal

pub returns-in-Jump : goal.returns-in-Jump
returns-in-Jump c = jump_below c.args.count c.args.end.now c.in-Jump.target c.in-Jump.is

pub returns-then-one-count : goal.returns-then-one-count
returns-then-one-count c = branch_below c.args.count c.args.end.now c.in-Branch.field-0
    c.in-Branch.one c.in-Branch.other c.in-Branch.is c.if-one-count.true

pub returns-else-one-count : goal.returns-else-one-count
returns-else-one-count c = branch_past c.args.count c.args.end.now c.in-Branch.field-0
    c.in-Branch.one c.in-Branch.other c.in-Branch.is c.if-one-count.false
