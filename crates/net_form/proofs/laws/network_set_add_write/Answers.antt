use Rattle.std.proofs.Common.{refl}
use Rattle.net_form.proofs.ExampleLiveness.{set_add_write-is_net}
use Rattle.net_form.proofs.laws.network_set_add_write.Goals as goal

pub returns-clause-network : goal.returns-clause-network
returns-clause-network c = set_add_write-is_net

pub returns-clause-register_size : goal.returns-clause-register_size
returns-clause-register_size c = refl

pub returns-clause-memory_size : goal.returns-clause-memory_size
returns-clause-memory_size c = refl

pub returns-clause-memory_speed : goal.returns-clause-memory_speed
returns-clause-memory_speed c = refl
