use Rattle.net_form.proofs.ExampleLiveness.{write_constant-is_net}
use Rattle.net_form.proofs.laws.network_write_constant.Goals as goal

pub returns : goal.returns
returns c = write_constant-is_net
