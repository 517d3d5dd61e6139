use Rattle.net_form.proofs.RoutesCost.{cost_of_routes}
use Rattle.net_form.proofs.InAnyOrder.{cost-permutation}
use Rattle.net_form.proofs.laws.routes_cost_their_flow.Goals as goal

pub returns-clause-routes : goal.returns-clause-routes
returns-clause-routes c = cost_of_routes

pub returns-clause-order : goal.returns-clause-order
returns-clause-order c = cost-permutation
