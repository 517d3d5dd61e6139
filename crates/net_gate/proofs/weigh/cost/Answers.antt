use Rattle.std.proofs.Common.{ℕ, ◌+◌, ◌∙◌, ap, sum_by}
use Rattle.net_cost.specs.Models.{weights_of}
use Rattle.net_form.specs.Cost.{way_cost}
use Rattle.net_form.specs.Flow.{flow}
use Rattle.net_form.specs.Tables.{all_tables}
use Rattle.net_form.proofs.RoutesCost.{cost_of_routes}
use Rattle.net_gate.proofs.weigh.cost.Goals as goal

pub returns : goal.returns
returns g c =
    let net = c.args.net.now in
    let w = weights_of c.args.model.now in
    ap (λ (n : ℕ). n + c.extras_cost.result) c.paths_cost.ensures.value
    ∙ ap (λ (n : ℕ). sum_by (way_cost all_tables net w) (flow net c.args.routes.now) + n)
    c.extras_cost.ensures.value
    ∙ cost_of_routes all_tables net w c.args.routes.now c.requires.routes
