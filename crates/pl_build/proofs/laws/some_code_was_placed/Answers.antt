use Rattle.pl_build.proofs.SampleIsPlacement.{placements}
use Rattle.pl_build.proofs.laws.some_code_was_placed.Goals as goal

pub returns : goal.returns
returns c = placements
