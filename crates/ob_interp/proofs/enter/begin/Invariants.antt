use Rattle.std.proofs.Common.{◌≡◌, ◌+◌, ◌++◌, drop, map, length}
use Rattle.ob_mean.specs.Program.{lent_of, passed, entered}
use Rattle.ob_interp.specs.Running.{store_of}
use Rattle.ob_interp.proofs.enter.begin.Given as goal

abbrev pub invariant-loop-arg : goal.invariant-loop-arg
invariant-loop-arg l = record {
  store : passed (length l.fn.running.calls.items + 1) l.k (drop l.arg-index l.args)
      (store_of l.running) ≡ entered (length l.fn.running.calls.items + 1)
      l.args (store_of l.fn.running);
  lent : l.lent.items ++ map lent_of (drop l.arg-index l.args) ≡ map lent_of l.args;
  number : l.k ≡ l.arg-index;
  calls : l.running.calls.items ≡ l.fn.running.calls.items;
  events : l.running.events ≡ l.fn.running.events;
  taken : l.running.taken ≡ l.fn.running.taken;
  units : l.running.units ≡ l.fn.running.units;
  stack : l.running.stack ≡ l.fn.running.stack;
}
