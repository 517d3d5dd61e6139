use Rattle.ia_code.proofs.ReadingIsTable.{reading_is_table}
use Rattle.ia_code.proofs.laws.reading_is_the_table.Goals as goal

pub returns : goal.returns
returns c = reading_is_table
