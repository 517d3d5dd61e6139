use Rattle.pl_routed.proofs.Followed.{carries, never_stuck}
use Rattle.pl_build.proofs.Followed.{all_routed}
use Rattle.pl_build.proofs.laws.placements_follow.Goals as goal

pub returns-clause-carried : goal.returns-clause-carried
returns-clause-carried c = λ module_ procs input are well. carries module_ procs input
    (all_routed module_.procs procs are) well

pub returns-clause-never_stuck : goal.returns-clause-never_stuck
returns-clause-never_stuck c = λ module_ procs input are well. never_stuck module_ procs input
    (all_routed module_.procs procs are) well
