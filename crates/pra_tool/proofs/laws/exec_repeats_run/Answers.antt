use Rattle.pra_tool.proofs.ExecAgrees.{exec_repeats_run}
use Rattle.pra_tool.proofs.laws.exec_repeats_run.Goals as goal

pub returns : goal.returns
returns c = exec_repeats_run
