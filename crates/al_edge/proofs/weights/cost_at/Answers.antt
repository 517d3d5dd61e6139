use Rattle.std.proofs.Common.{ℤ, List, subst, sym, rules, w64}
use mir.Val.{SFits}
use Rattle.std.proofs.lemmas.Int.{to_z-of_z}
use Rattle.pra_base.specs.declared.ids.Place.{Place}
use Rattle.net_cost.specs.Models.{weights_of}
use Rattle.net_form.specs.declared.routes.Ends.{Ends}
use Rattle.net_form.specs.InUse.{UsesNothing}
use Rattle.net_dual.specs.Priced.{edge_price}
use Rattle.net_dual.specs.Paths.{IsLeastCost, Anywhere, MayGo}
use Rattle.al_laws.specs.Greedy.{group_ends}
use Rattle.net_path.specs.Desk.{path_of}
use Rattle.al_edge.proofs.Costs.{least_cost, some_way}
use Rattle.al_edge.proofs.weights.cost_at.Goals as goal

pub returns-in-Ok-clause-cost : goal.returns-in-Ok-clause-cost
returns-in-Ok-clause-cost g c =
    let net = c.args.net.now in
    let price = edge_price net (weights_of c.args.model.now) c.args.prices.now in
    let s = c.args.strand in
    let cost = c.in-Ok.cost in
    let fits : SFits w64 cost = search rules in
    subst (λ (z : ℤ). IsLeastCost net price
    (group_ends net c.args.group c.args.place s) Anywhere s z) (sym (to_z-of_z w64 cost fits))
    (subst (λ (ends : Ends). IsLeastCost net price ends Anywhere s cost) c.group_ends-ends.ensures
    (least_cost net c.args.free.now c.requires.free price c.group_ends-ends.result s
    (path_of c.least.new.work) cost c.in-Ok.ensures.found c.in-Ok.ensures.cost))

pub returns-in-Err-clause-cost : goal.returns-in-Err-clause-cost
returns-in-Err-clause-cost g c =
    let net = c.args.net.now in
    let s = c.args.strand in
    absurd (some_way net c.args.free.now c.requires.free c.requires.net c.args.group c.args.place
    c.requires.place s c.requires.strand
    (subst (λ (ends : Ends). (ps : List Place) → MayGo net ends
    (UsesNothing net c.args.free.now) s ps → ⊥) c.group_ends-ends.ensures c.in-Err.ensures.none))
