use Rattle.std.proofs.Common.{append_assoc}
use Rattle.pra_gen.proofs.module.push_call.Goals as goal

pub returns : goal.returns
returns c = simp append_assoc c.in_ok-write.ensures.bytes
