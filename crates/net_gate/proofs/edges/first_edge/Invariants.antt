use Rattle.std.proofs.Common.{◌≡◌, ◌<◌, ℕ, count_by}
use Rattle.net_form.specs.Flow.{flow}
use Rattle.net_gate.specs.Broken.{breaks}
use Rattle.net_gate.proofs.edges.first_edge.Given as goal

abbrev pub invariant-loop-at : goal.invariant-loop-at
invariant-loop-at l = (s k : ℕ) → s < l.at → count_by (breaks l.net l.rule s k)
    (flow l.net l.routes) ≡ 0
