use Rattle.std.proofs.Common.{refl}
use Rattle.vc_live.proofs.Steps.{at_exit_of}
use Rattle.vc_live.proofs.equations.start_at_exit.Goals as goal

pub returns-clause-members : goal.returns-clause-members
returns-clause-members c =
    λ v. rw (at_exit_of _ _ _ v, c.subtract.ensures.members v, c.take_targets.ensures.members v)
    refl
