use Rattle.vc_checks.proofs.Knowing.{past_plain}
use Rattle.vc_checks.proofs.known.constant.Goals as goal

pub returns-in_default-2-clause-none : goal.returns-in_default-2-clause-none
returns-in_default-2-clause-none c = λ none. past_plain c.args.code.now.vars c.args.v.0
    (rw c.in_default.is at c.get.ensures.value)
