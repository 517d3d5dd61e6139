use Rattle.std.proofs.Common.{ℕ, ◌≡◌, subst, arith}
use Rattle.net_cost.specs.Models.{weights_of}
use Rattle.al_edge.specs.Planned.{ArePlanned}
use Rattle.al_edge.proofs.Plans.{greedy}
use Rattle.al_edge.proofs.planning.plan_in.Goals as goal

pub returns-clause-greedy : goal.returns-clause-greedy
returns-clause-greedy g c =
    let net = c.args.net.now in
    let w = weights_of c.args.model.now in
    let all : c.loop-group.group ≡ net.groups
    = omega (arith, c.loop-group-test.false, c.loop-group.auto.group-end) in
    greedy net w c.args.prices.now c.loop-group.used c.loop-group.places
    (subst (λ (k : ℕ). ArePlanned net w c.args.prices.now c.loop-group.used k c.loop-group.places)
    all c.loop-group.invariant.planned)
