use Rattle.ia_simulation.proofs.Whole as whole
use Rattle.ia_simulation.proofs.laws.computing_is_carried.Goals as goal

pub returns-clause-set : goal.returns-clause-set
returns-clause-set c = whole.sets

pub returns-clause-copy : goal.returns-clause-copy
returns-clause-copy c = whole.copies

pub returns-clause-add : goal.returns-clause-add
returns-clause-add c = whole.adds

pub returns-clause-subtract : goal.returns-clause-subtract
returns-clause-subtract c = whole.subtracts

pub returns-clause-and : goal.returns-clause-and
returns-clause-and c = whole.ands

pub returns-clause-or : goal.returns-clause-or
returns-clause-or c = whole.ors

pub returns-clause-xor : goal.returns-clause-xor
returns-clause-xor c = whole.xors

pub returns-clause-multiply : goal.returns-clause-multiply
returns-clause-multiply c = whole.multiplies

pub returns-clause-compare : goal.returns-clause-compare
returns-clause-compare c = whole.compares

pub returns-clause-negate : goal.returns-clause-negate
returns-clause-negate c = whole.negates

pub returns-clause-shift : goal.returns-clause-shift
returns-clause-shift c = whole.shifts

pub returns-clause-condition : goal.returns-clause-condition
returns-clause-condition c = whole.sets_condition

pub returns-clause-divide : goal.returns-clause-divide
returns-clause-divide c = whole.divides
