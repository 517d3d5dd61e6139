use Rattle.pl_routed.proofs.Followed as followed
use Rattle.pl_routed.proofs.laws.placement_follows.Goals as goal

pub returns-clause-carried : goal.returns-clause-carried
returns-clause-carried c = λ module_ procs input is never. followed.carries module_ procs input is
    never

pub returns-clause-never_stuck : goal.returns-clause-never_stuck
returns-clause-never_stuck c = λ module_ procs input is never. followed.never_stuck module_ procs
    input is never

pub returns-clause-until : goal.returns-clause-until
returns-clause-until c = λ module_ procs input is. followed.reaches_until module_ procs input is
