use Rattle.std.proofs.Common.{◌≡◌, ◌≤◌, ◌-◌, ℕ, length, drop, count_by}
use Rattle.net_form.specs.Admitted.{uses_bundle}
use Rattle.net_form.specs.Flow.{flow_from, flow}
use Rattle.net_gate.specs.InUse.{Stands}
use Rattle.net_gate.proofs.bundles.first_bundle.Given as goal

abbrev pub invariant-loop-at : goal.invariant-loop-at
invariant-loop-at l = record {
  long : length l.taken.regs ≡ length l.initial.taken.regs;
  mems : length l.taken.mems ≡ length l.initial.taken.mems;
  bound : (n r : ℕ) → count_by (uses_bundle l.net n r)
      (flow_from l.at (drop l.at l.net.strands) (drop l.at l.routes.places)) ≤
      count_by (uses_bundle l.net n r) (flow l.net l.routes);
  stands : Stands
      (λ n r. count_by (uses_bundle l.net n r) (flow l.net l.routes) - count_by
      (uses_bundle l.net n r) (flow_from l.at (drop l.at l.net.strands)
      (drop l.at l.routes.places)))
      l.taken.regs l.clash;
}
