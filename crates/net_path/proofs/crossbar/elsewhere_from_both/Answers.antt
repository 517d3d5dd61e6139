use Rattle.net_path.proofs.Elsewhere.{least_elsewhere, both_bounds}
use Rattle.net_path.proofs.crossbar.elsewhere_from_both.Goals as goal

pub returns : goal.returns
returns g c = λ costs r are lt. least_elsewhere _ r c.args.steps.now.both costs c.args.bests.now
    (both_bounds c.args.steps.now c.requires.steps r) are _ c.going_on.ensures
