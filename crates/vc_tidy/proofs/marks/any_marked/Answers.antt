use Rattle.std.proofs.Common.{get_or}
use Rattle.vc_live.proofs.Steps.{no_role, named_at}
use Rattle.vc_tidy.proofs.marks.any_marked.Goals as goal

pub bounds-marks-role : goal.bounds-marks-role
bounds-marks-role c = c.requires (get_or c.args.roles.now c.loop-role.role-index no_role).var.0
    (named_at c.args.roles.now c.loop-role.role-index no_role c.loop-role-test.true)
