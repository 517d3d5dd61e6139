use Rattle.std.proofs.Common.{◌≡◌, ◌<◌, ◌≤◌, ℕ, length}
use Rattle.std.specs.Prelude.{IfSome, nat_eq}
use Rattle.std.specs.List.{list_any}
use Rattle.vc_live.specs.Least.{IsBelow}
use Rattle.net_build.proofs.strands.least_from.Given as goal

abbrev pub invariant-loop-rest : goal.invariant-loop-rest
invariant-loop-rest l = record {
  within : IfSome l.least (λ k. (l.from ≤ k) × (k < l.end));
  same : (v : ℕ) → l.from ≤ v → v < l.end → IsBelow v l.least
      → list_any (λ role. nat_eq role.var.0 v) l.roles ≡ list_any (λ role. nat_eq role.var.0 v)
      l.rest;
}

abbrev pub decreases-loop-rest : goal.decreases-loop-rest
decreases-loop-rest l = length l.rest
