use Rattle.std.proofs.Common.{◌≡◌, drop, map}
use Rattle.ob_mean.specs.Designators.{selected}
use Rattle.ob_mean.specs.Expressions.{at_store, selector, location}
use Rattle.ob_interp.specs.Running.{store_of}
use Rattle.ob_interp.proofs.evaluate.+evaluate.Given as goal

abbrev pub invariant-locate-loop-step : goal.invariant-locate-loop-step
invariant-locate-loop-step l =
    let calls = l.running.calls.items in
    let s = store_of l.running in
    selected l.program.types l.type_id l.at (at_store calls s (map (selector l.program) (drop
    l.step-index l.step-items)))
    ≡ location l.program l.v calls s
