use Rattle.std.proofs.Common.{◌≡◌, ◌-◌, ◌≤◌}
use Rattle.ia_step.specs.Run.{ran}
use Rattle.ia_step.proofs.machine.Machine.run.Given as goal

abbrev pub invariant-loop-steps : goal.invariant-loop-steps
invariant-loop-steps l = record {
  within : l.steps ≤ l.m;
  same : ran l.fn.self l.steps ≡ record { state = l.self; events = l.events; steps = l.steps };
}

abbrev pub decreases-loop-steps : goal.decreases-loop-steps
decreases-loop-steps l = l.m - l.steps
