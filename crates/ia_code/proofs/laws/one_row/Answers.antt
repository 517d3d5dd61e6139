use Rattle.ia_code.proofs.ReadingIsTable.{one_row}
use Rattle.ia_code.proofs.laws.one_row.Goals as goal

pub returns : goal.returns
returns c = one_row
