use Rattle.pl_place.proofs.SampleIsPlaced.{sample_is}
use Rattle.pl_place.proofs.laws.some_code_is_placed.Goals as goal

pub returns : goal.returns
returns c = sample_is
