use Rattle.net_form.proofs.OneNetwork.{one_network}
use Rattle.net_form.proofs.laws.code_has_one_network.Goals as goal

pub returns : goal.returns
returns c = one_network
