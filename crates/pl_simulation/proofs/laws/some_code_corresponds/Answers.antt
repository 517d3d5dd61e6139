use Rattle.pl_simulation.proofs.SampleCorresponds.{all_correspond}
use Rattle.pl_simulation.proofs.laws.some_code_corresponds.Goals as goal

pub returns : goal.returns
returns c = all_correspond
