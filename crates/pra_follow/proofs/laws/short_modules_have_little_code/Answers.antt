use Rattle.pra_follow.proofs.Little.{few_instructions, few_blocks}
use Rattle.pra_follow.proofs.laws.short_modules_have_little_code.Goals as goal

pub returns-clause-instructions : goal.returns-clause-instructions
returns-clause-instructions c = few_instructions

pub returns-clause-blocks : goal.returns-clause-blocks
returns-clause-blocks c = few_blocks
