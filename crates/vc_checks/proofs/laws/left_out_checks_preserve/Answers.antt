use Rattle.vc_checks.proofs.Keeping.{preserves}
use Rattle.vc_checks.proofs.laws.left_out_checks_preserve.Goals as goal

pub returns : goal.returns
returns c = λ old new leaves was sized. preserves leaves.0 old new leaves.1 was sized
