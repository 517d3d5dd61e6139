use Rattle.ia_simulation.proofs.Whole as whole
use Rattle.ia_simulation.proofs.laws.ends_are_carried.Goals as goal

pub returns-clause-jump : goal.returns-clause-jump
returns-clause-jump c = whole.jumps

pub returns-clause-branch : goal.returns-clause-branch
returns-clause-branch c = whole.branches

pub returns-clause-return_ : goal.returns-clause-return_
returns-clause-return_ c = whole.returns
