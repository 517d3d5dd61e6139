use Rattle.vc_same.proofs.Valid as valid
use Rattle.vc_same.proofs.laws.reduced_code_preserves.Goals as goal

pub returns : goal.returns
returns c = λ to old new reduced params was sized. valid.preserves to old new reduced params was
    sized
