use Rattle.std.proofs.Common.{◌≡◌, ◌-◌, ◌<◌, ◌≤◌, ℕ, false}
use Rattle.vc_live.specs.Rows.{live_at}
use Rattle.vc_live.proofs.liveness.Liveness.next_at_entry.Given as goal

abbrev pub invariant-loop-v : goal.invariant-loop-v
invariant-loop-v l = record {
  above : l.from ≤ l.v;
  none : (u : ℕ) → l.from ≤ u → u < l.v → live_at l.self u l.block.0 0 ≡ false;
}

abbrev pub decreases-loop-v : goal.decreases-loop-v
decreases-loop-v l = l.end - l.v
