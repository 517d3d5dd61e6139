use Rattle.std.proofs.Common.{◌≡◌, ◌++◌, drop, Ok}
use Rattle.pra_list.specs.Results.{◌>>=◌}
use Rattle.ob_mean.specs.Statements.{arguments}
use Rattle.ob_interp.specs.Running.{store_of}
use Rattle.ob_interp.proofs.enter.arguments.Given as goal

abbrev pub invariant-loop-x : goal.invariant-loop-x
invariant-loop-x l =
    (arguments l.setting.program.now l.running.calls.items (store_of l.running)
    (drop l.x-index l.all) >>= λ rest. Ok (l.done.items ++ rest))
    ≡ arguments l.setting.program.now l.running.calls.items (store_of l.running) l.all
