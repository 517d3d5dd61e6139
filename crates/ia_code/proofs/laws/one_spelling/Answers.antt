use Rattle.ia_code.proofs.ReadingIsTable.{one_spelling}
use Rattle.ia_code.proofs.laws.one_spelling.Goals as goal

pub returns : goal.returns
returns c = one_spelling
