use Rattle.pl_made.proofs.SampleIsMade.{sample_is}
use Rattle.pl_made.proofs.laws.some_code_is_made.Goals as goal

pub returns : goal.returns
returns c = sample_is
