use Rattle.std.proofs.Common.{ap, ◌∙◌}
use Rattle.ob_interp.specs.Told.{told}
use Rattle.ob_interp.proofs.interpret.run.Goals as goal

pub returns-in-None : goal.returns-in-None
returns-in-None c =
    let goes = rw c.in-None.is at c.in_ok-due.ensures.goes in
    c.reached-in-None.ensures c.args.setting.now.input.now ∙ ap told (goes
    ∙ c.loop-tasks.invariant.goes)
