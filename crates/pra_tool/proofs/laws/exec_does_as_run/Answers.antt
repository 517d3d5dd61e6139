use Rattle.pra_tool.proofs.ExecAgrees.{exec_does_as_run}
use Rattle.pra_tool.proofs.laws.exec_does_as_run.Goals as goal

pub returns : goal.returns
returns c = exec_does_as_run
