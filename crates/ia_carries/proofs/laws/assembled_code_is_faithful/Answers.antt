use Rattle.ia_carries.proofs.Assembled.{faithful}
use Rattle.ia_carries.proofs.laws.assembled_code_is_faithful.Goals as goal

pub returns : goal.returns
returns c = faithful
