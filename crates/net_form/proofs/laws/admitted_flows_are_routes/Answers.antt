use Rattle.net_form.proofs.InAnyOrder.{admitted_is_routes}
use Rattle.net_form.proofs.laws.admitted_flows_are_routes.Goals as goal

pub returns : goal.returns
returns c = admitted_is_routes
