use Rattle.pl_build.proofs.Followed.{all_routed}
use Rattle.pl_build.proofs.laws.placements_are_routed.Goals as goal

pub returns : goal.returns
returns c = λ codes procs are. all_routed codes procs are
