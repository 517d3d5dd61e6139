use Rattle.vc_checks.proofs.Walking.{fact_holds}
use Rattle.vc_checks.proofs.flow.holds.Goals as goal

pub returns-in-Some : goal.returns-in-Some
returns-in-Some c = λ e kind.
    let known = c.in-Some.ensures in
    fact_holds kind c.args.known.now c.in-Some.inner c.args.fact known.0 known.1
    (c.is_within.ensures e)
