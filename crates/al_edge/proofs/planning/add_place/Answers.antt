use Rattle.std.proofs.Common.{List, ◌+◌, subst, sym}
use Rattle.pra_base.specs.declared.ids.Place.{Place}
use Rattle.net_cost.specs.Models.{weights_of}
use Rattle.al_edge.specs.Planned.{ArePlanned}
use Rattle.al_edge.proofs.Plans.{planned_more}
use Rattle.al_edge.proofs.planning.add_place.Goals as goal

pub returns-clause-planned : goal.returns-clause-planned
returns-clause-planned g c =
    let net = c.args.net.now in
    let w = weights_of c.args.model.now in
    subst (λ (places : List Place). ArePlanned net w c.args.prices.now c.take_group.new.used
    (c.args.group + 1) places) (sym c.in_ok-push.ensures.ok)
    (planned_more net w c.args.prices.now c.args.used.now c.take_group.new.used c.args.group
    c.args.places.now c.best_place-place.result c.requires.planned c.best_place-place.ensures.best
    c.take_group.ensures.room c.take_group.ensures.marks)
