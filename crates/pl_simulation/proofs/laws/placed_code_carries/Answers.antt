use Rattle.pl_simulation.proofs.Carried as carried
use Rattle.pl_simulation.proofs.laws.placed_code_carries.Goals as goal

pub returns-clause-carried : goal.returns-clause-carried
returns-clause-carried c = λ module_ procs input is never. carried.placed_carries module_ procs
    input is never

pub returns-clause-never_stuck : goal.returns-clause-never_stuck
returns-clause-never_stuck c = λ module_ procs input is never. carried.never_stuck module_ procs
    input is never

pub returns-clause-until : goal.returns-clause-until
returns-clause-until c = λ module_ procs input is. carried.placed_until module_ procs input is
