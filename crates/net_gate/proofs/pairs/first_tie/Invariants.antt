use Rattle.std.proofs.Common.{ℕ, ◌<◌, get_or}
use Rattle.net_form.specs.declared.net.Tie.{Tie}
use Rattle.net_form.specs.Flow.{flow}
use Rattle.net_form.specs.Admitted.{KeepsTie}
use Rattle.net_gate.proofs.pairs.first_tie.Given as goal

abbrev pub invariant-loop-k : goal.invariant-loop-k
invariant-loop-k l = (j : ℕ) (d : Tie) → j < l.k → KeepsTie l.net (flow l.net l.routes)
    (get_or l.net.ties j d)
