use Rattle.net_path.proofs.Elsewhere.{least_elsewhere, alone_bounds}
use Rattle.net_path.proofs.crossbar.elsewhere_from_alone.Goals as goal

pub returns : goal.returns
returns g c = λ costs r are lt. least_elsewhere _ r c.args.steps.now.alone costs c.args.bests.now
    (alone_bounds c.args.steps.now c.requires.steps r lt) are _ c.going_on.ensures
