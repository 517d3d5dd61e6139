use Rattle.std.proofs.Common.{ℕ, ◌<◌, get_or}
use Rattle.net_form.specs.declared.net.MemPair.{MemPair}
use Rattle.net_form.specs.Flow.{flow}
use Rattle.net_gate.specs.Broken.{KeepsPair}
use Rattle.net_gate.proofs.pairs.first_pair.Given as goal

abbrev pub invariant-loop-k : goal.invariant-loop-k
invariant-loop-k l = (j : ℕ) (d : MemPair) → j < l.k → KeepsPair (flow l.net l.routes)
    (get_or l.net.pairs j d)
