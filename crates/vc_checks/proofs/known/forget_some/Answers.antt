use Rattle.vc_checks.proofs.Knowing.{forgot_some}
use Rattle.vc_checks.proofs.known.forget_some.Goals as goal

pub returns-in-Some : goal.returns-in-Some
returns-in-Some c = forgot_some c.args.known.now.items c.forget.new.known.items c.in-Some.v
    c.args.variable c.in-Some.is c.forget.ensures
