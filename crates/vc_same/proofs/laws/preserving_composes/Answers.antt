use Rattle.vc_same.proofs.Valid as valid
use Rattle.vc_same.proofs.laws.preserving_composes.Goals as goal

pub returns-clause-itself : goal.returns-clause-itself
returns-clause-itself c = λ code is sized. valid.preserves_itself code is sized

pub returns-clause-then_on : goal.returns-clause-then_on
returns-clause-then_on c = λ a b d p q. valid.preserves_on a b d p q
