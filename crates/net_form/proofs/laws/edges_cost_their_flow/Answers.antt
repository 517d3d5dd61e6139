use Rattle.net_form.proofs.EdgeCosts.{cost_by_edges}
use Rattle.net_form.proofs.laws.edges_cost_their_flow.Goals as goal

pub returns : goal.returns
returns c = cost_by_edges
