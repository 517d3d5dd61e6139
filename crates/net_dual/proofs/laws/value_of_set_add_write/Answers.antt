use Rattle.net_dual.proofs.WorkedRow.{free_is_one, value_is_1024}
use Rattle.net_dual.proofs.laws.value_of_set_add_write.Goals as goal

pub returns-clause-bound : goal.returns-clause-bound
returns-clause-bound c = free_is_one

pub returns-clause-value : goal.returns-clause-value
returns-clause-value c = value_is_1024
