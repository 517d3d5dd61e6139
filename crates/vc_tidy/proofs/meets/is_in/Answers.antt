use Rattle.std.proofs.Common.{sym}
use Rattle.vc_live.proofs.Steps.{named_none}
use Rattle.vc_tidy.proofs.Meeting.{in_role, in_no_role}
use Rattle.vc_tidy.proofs.meets.is_in.Goals as goal

pub loop-role-init : goal.loop-role-init
loop-role-init c = named_none c.args.v

pub returns-then-role-v : goal.returns-then-role-v
returns-then-role-v c = sym (in_role c.args.roles.now c.loop-role.role-index c.args.v
    c.loop-role-test.true c.if-role-v.true)

pub loop-role-preserved : goal.loop-role-preserved
loop-role-preserved c = in_no_role c.args.roles.now c.loop-role.role-index c.args.v
    c.loop-role-test.true c.if-role-v.false c.loop-role.invariant
