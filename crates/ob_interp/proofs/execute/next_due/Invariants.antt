use Rattle.std.proofs.Common.{◌≡◌}
use Rattle.ob_interp.specs.Running.{IsRunning, remains, tasks_weight}
use Rattle.ob_interp.proofs.execute.next_due.Given as goal

abbrev pub invariant-loop-task : goal.invariant-loop-task
invariant-loop-task l = record {
  running : IsRunning l.setting l.running;
  units : l.running.units ≡ l.fn.running.units;
  goes : remains l.setting l.tasks.items l.running
      ≡ remains l.setting l.fn.tasks.items l.fn.running;
}

abbrev pub decreases-loop-task : goal.decreases-loop-task
decreases-loop-task l = tasks_weight l.tasks.items
