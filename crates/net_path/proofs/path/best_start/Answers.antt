use Rattle.net_path.proofs.BestChoices.{best_of_none, best_more}
use Rattle.net_path.proofs.path.best_start.Goals as goal

pub loop-number-init : goal.loop-number-init
loop-number-init g c = best_of_none _ _ _ _ c.begin_at-best.ensures

pub loop-number-preserved : goal.loop-number-preserved
loop-number-preserved g c =
    best_more _ _ _ _ _ _ _ c.loop-number.invariant c.place_of.ensures c.begin_at.ensures
    c.better-best.ensures.one c.better-best.ensures.other c.better-best.ensures.met
