use Rattle.std.proofs.Common.{◌≡◌, drop, map}
use Rattle.vc_select.specs.Blocks.{all_safe, needs_of_step}
use Rattle.vc_select.specs.Selects.{AreFields}
use Rattle.vc_select.proofs.operator.are_fields.Given as goal

abbrev pub invariant-loop-step : goal.invariant-loop-step
invariant-loop-step l = (AreFields (drop l.step-index l.steps) → AreFields l.steps)
    × (all_safe (map needs_of_step l.steps) ≡
    all_safe (map needs_of_step (drop l.step-index l.steps)))
