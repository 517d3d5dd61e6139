use Rattle.vc_checks.proofs.Walking.{one_more_holds}
use Rattle.vc_checks.proofs.flow.all_hold.Goals as goal

pub loop-fact-preserved : goal.loop-fact-preserved
loop-fact-preserved c = λ kind.
    one_more_holds kind c.args.known.now c.args.wanted.now c.loop-fact.fact-index
    c.loop-fact-test.true (c.loop-fact.invariant kind) (c.holds.ensures c.if-not-holds.false kind)
