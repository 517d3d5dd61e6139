use Rattle.ia_emit.proofs.FewBytes.{few_bytes}
use Rattle.ia_emit.proofs.laws.code_fits.Goals as goal

pub returns : goal.returns
returns c = few_bytes
