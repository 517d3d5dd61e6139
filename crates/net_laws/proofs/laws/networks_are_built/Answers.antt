use Rattle.net_laws.proofs.Built.{built}
use Rattle.net_laws.proofs.laws.networks_are_built.Goals as goal

pub returns : goal.returns
returns c = built
