use Rattle.vc_code.proofs.SampleIsValid.{sample_is}
use Rattle.vc_code.proofs.laws.some_code_is_valid.Goals as goal

pub returns : goal.returns
returns c = sample_is
