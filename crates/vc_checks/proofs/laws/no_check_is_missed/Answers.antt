use Rattle.vc_checks.proofs.Running.{same_runs}
use Rattle.vc_checks.proofs.laws.no_check_is_missed.Goals as goal

pub returns : goal.returns
returns c = λ old new leaves. same_runs leaves.0 old new leaves.1
