use Rattle.vc_code.proofs.CallLists.{waiting_first}
use Rattle.vc_code.proofs.machine.Execution.bytes_under.Goals as goal

pub returns : goal.returns
returns c = rw (
  waiting_first c.args.self.now.below.items c.args.self.now.top c.args.n c.requires,
  ← c.deref.ensures.value,
) c.bytes_of.ensures
