use Rattle.vc_build.proofs.Steps.{runs_in_earlier}
use Rattle.vc_build.proofs.laws.later_code_runs_earlier_code.Goals as goal

pub returns : goal.returns
returns c = runs_in_earlier
