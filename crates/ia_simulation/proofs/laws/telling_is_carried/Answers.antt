use Rattle.ia_simulation.proofs.Whole as whole
use Rattle.ia_simulation.proofs.laws.telling_is_carried.Goals as goal

pub returns-clause-write : goal.returns-clause-write
returns-clause-write c = whole.writes

pub returns-clause-line : goal.returns-clause-line
returns-clause-line c = whole.lines

pub returns-clause-read : goal.returns-clause-read
returns-clause-read c = whole.reads
