use Rattle.vc_checks.proofs.Knowing.{among_at}
use Rattle.vc_checks.proofs.known.find.Goals as goal

pub returns-then-fact-v : goal.returns-then-fact-v
returns-then-fact-v c = (
  among_at c.args.known.now c.loop-fact.fact-index c.loop-fact-test.true,
  c.if-fact-v.true,
)
