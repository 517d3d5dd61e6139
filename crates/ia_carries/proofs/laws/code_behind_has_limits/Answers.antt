use Rattle.ia_carries.proofs.Few.{is_small, same_instructions, are_few}
use Rattle.ia_carries.proofs.laws.code_behind_has_limits.Goals as goal

pub returns-clause-small : goal.returns-clause-small
returns-clause-small c = is_small

pub returns-clause-instructions : goal.returns-clause-instructions
returns-clause-instructions c = same_instructions

pub returns-clause-few : goal.returns-clause-few
returns-clause-few c = are_few
