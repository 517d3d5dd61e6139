use Rattle.std.proofs.Common.{ℤ, get_or, Some, None, w64, subst, sym}
use Rattle.std.proofs.lemmas.Int.{to_z-of_z}
use Rattle.pra_base.specs.Places.{number}
use Rattle.pra_base.proofs.PlaceNumbers.{number_below}
use Rattle.net_cost.specs.Models.{weights_of}
use Rattle.net_path.specs.Starts.{starting}
use Rattle.al_edge.specs.Weighed.{IsCostAt}
use Rattle.al_edge.proofs.Costs.{cost_with, both_ends}
use Rattle.al_edge.proofs.weights.cost_around.Goals as goal

pub returns-clause-cost : goal.returns-clause-cost
returns-clause-cost g c =
    let net = c.args.net.now in
    let w = weights_of c.args.model.now in
    let p = c.args.place in
    let cost = c.known_at.result in
    subst (λ (z : ℤ). IsCostAt net w c.args.prices.now c.args.group p c.args.strand z)
    (sym (to_z-of_z w64 cost (record { sfits = c.known_at.type_inv })))
    (cost_with net c.args.free.now c.requires.free c.requires.net w c.args.prices.now c.args.group
    c.args.strand c.requires.strand p c.requires.place (starting (Some p) p)
    (both_ends net c.args.group c.args.strand p c.requires.entry c.requires.exit)
    (get_or c.costs_from-found.result (number p) None)
    (c.costs_from-found.ensures.costs p (number_below p)) cost c.known_at.ensures)
