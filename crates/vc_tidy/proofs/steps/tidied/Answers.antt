use Rattle.vc_same.proofs.Valid.{preserves_on}
use Rattle.vc_tidy.proofs.KeptKinds.{kinds_on}
use Rattle.vc_tidy.proofs.steps.tidied.Goals as goal

pub loop-now-preserved : goal.loop-now-preserved
loop-now-preserved c =
    let step = rw c.in-Some-2.is at c.in_ok-next.ensures in (
      preserves_on c.args.code.now c.loop-now.now c.in-Some-2.next c.loop-now.invariant.0 step.0,
      kinds_on c.args.code.now c.loop-now.now c.in-Some-2.next c.loop-now.invariant.1 step.1,
    )
