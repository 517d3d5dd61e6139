use Rattle.net_laws.proofs.Ordered.{in_order}
use Rattle.net_laws.proofs.laws.networks_are_in_order.Goals as goal

pub returns : goal.returns
returns c = in_order
