use Rattle.pl_routed.proofs.Followed.{all_correspond}
use Rattle.pl_routed.proofs.laws.routed_code_corresponds.Goals as goal

pub returns : goal.returns
returns c = λ codes procs is. all_correspond codes procs is
