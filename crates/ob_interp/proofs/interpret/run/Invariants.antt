use Rattle.std.proofs.Common.{◌≡◌, ◌-◌}
use Rattle.ob_interp.specs.Units.{units_run}
use Rattle.ob_interp.specs.Running.{IsRunning, remains}
use Rattle.ob_interp.proofs.interpret.run.Given as goal

abbrev pub invariant-loop-tasks : goal.invariant-loop-tasks
invariant-loop-tasks l = record {
  running : IsRunning l.setting l.running;
  goes : remains l.setting l.tasks.items l.running
      ≡ units_run l.setting.program.now l.setting.frames.now l.setting.input.now l.setting.granted;
}

abbrev pub decreases-loop-tasks : goal.decreases-loop-tasks
decreases-loop-tasks l = l.setting.granted - l.running.units
