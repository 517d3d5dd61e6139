use Rattle.ia_simulation.proofs.Start as begin
use Rattle.ia_simulation.proofs.laws.start_is_represented.Goals as goal

pub returns : goal.returns
returns c = begin.starts
