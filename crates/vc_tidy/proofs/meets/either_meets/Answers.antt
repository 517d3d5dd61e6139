use Rattle.std.proofs.Common.{refl}
use Rattle.vc_tidy.proofs.meets.either_meets.Goals as goal

pub returns-clause-there : goal.returns-clause-there
returns-clause-there c = λ e. c.if-groups_meet.ensures.none refl
