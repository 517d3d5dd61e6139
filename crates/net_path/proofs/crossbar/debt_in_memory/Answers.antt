use Rattle.net_path.proofs.Elsewhere.{least_anywhere, least_elsewhere, memory_bounds}
use Rattle.net_path.proofs.crossbar.debt_in_memory.Goals as goal

pub returns : goal.returns
returns g c = λ costs are.
    least_anywhere _ _ _ (least_elsewhere _ 14 c.args.steps.now.memory costs c.args.bests.now
    (memory_bounds c.args.steps.now c.requires.steps 14) are _ c.going_on.ensures)
