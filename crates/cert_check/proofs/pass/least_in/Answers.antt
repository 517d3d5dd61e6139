use Rattle.std.proofs.Common.{refl}
use Rattle.net_dual.specs.Leasts.{cost_at}
use Rattle.cert_check.proofs.pass.least_in.Goals as goal

pub loop-at-preserved : goal.loop-at-preserved
loop-at-preserved c =
    c.lesser-least.ensures.least (cost_at c.args.row.now) c.loop-at.at c.loop-at.invariant refl
