use Rattle.net_path.proofs.Leasts.{least_of_one, least_of_more}
use Rattle.net_path.proofs.crossbar.least_of_six.Goals as goal

pub loop-k-init : goal.loop-k-init
loop-k-init g c = least_of_one _ _ _ c.debt_at-least.ensures

pub loop-k-preserved : goal.loop-k-preserved
loop-k-preserved g c = least_of_more _ _ _ _ _ _ c.loop-k.invariant c.debt_at.ensures
    c.lesser-least.ensures.one c.lesser-least.ensures.other c.lesser-least.ensures.met
