use Rattle.ia_list.proofs.LinesRead.{same_line}
use Rattle.ia_list.proofs.laws.one_instruction.Goals as goal

pub returns : goal.returns
returns c = same_line
