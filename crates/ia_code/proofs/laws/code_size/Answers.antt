use Rattle.ia_code.proofs.EncodingSize.{code_of}
use Rattle.ia_code.proofs.laws.code_size.Goals as goal

pub returns : goal.returns
returns c = code_of
