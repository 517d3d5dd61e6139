use Rattle.net_form.proofs.NetworkFormed.{formed}
use Rattle.net_form.proofs.laws.networks_are_formed.Goals as goal

pub returns : goal.returns
returns c = formed
