use Rattle.std.proofs.Common.{refl}
use Rattle.vc_same.proofs.Valid.{preserves_itself}
use Rattle.vc_tidy.proofs.KeptKinds.{same_kinds}
use Rattle.vc_tidy.proofs.steps.tidy.Goals as goal

pub returns-in-Ok-None-clause-preserves : goal.returns-in-Ok-None-clause-preserves
returns-in-Ok-None-clause-preserves c = preserves_itself c.args.code c.requires.valid
    c.requires.sized

pub returns-in-Ok-None-clause-kinds : goal.returns-in-Ok-None-clause-kinds
returns-in-Ok-None-clause-kinds c = same_kinds c.args.code c.args.code refl
