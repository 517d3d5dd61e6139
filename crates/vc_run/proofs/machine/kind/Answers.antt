use Rattle.vc_run.proofs.Totals.{past_is}
use Rattle.vc_run.proofs.machine.kind.Goals as goal

pub returns-in-None : goal.returns-in-None
returns-in-None c = past_is c.args.code.now.vars c.args.var.0 _ c.in-None.ensures.value
