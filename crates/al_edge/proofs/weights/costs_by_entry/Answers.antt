use Rattle.std.proofs.Common.{get_or, None}
use Rattle.pra_base.specs.Places.{number}
use Rattle.net_cost.specs.Models.{weights_of}
use Rattle.net_path.specs.Starts.{starting}
use Rattle.al_edge.specs.Totals.{number_at}
use Rattle.al_edge.proofs.Costs.{cost_with, entry_ends}
use Rattle.al_edge.proofs.weights.costs_by_entry.Goals as goal

pub returns-clause-costs : goal.returns-clause-costs
returns-clause-costs g c = λ p lt o.
    cost_with c.args.net.now c.args.free.now c.requires.free c.requires.net
    (weights_of c.args.model.now) c.args.prices.now c.args.group c.args.strand c.requires.strand p
    (c.requires.opens p o) (starting None p) (entry_ends c.args.net.now c.args.group c.args.strand p
    c.requires.entry c.requires.exit) (get_or c.costs_from-found.result (number p) None)
    (c.costs_from-found.ensures.costs p lt) (number_at c.known.result (number p))
    (c.known.ensures (number p) lt)
