use Rattle.pra_tool.proofs.InterpAgrees.{interp_does_as_run}
use Rattle.pra_tool.proofs.laws.interp_does_as_run.Goals as goal

pub returns : goal.returns
returns c = interp_does_as_run
