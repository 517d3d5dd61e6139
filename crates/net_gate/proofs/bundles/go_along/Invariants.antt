use Rattle.std.proofs.Common.{◌≡◌, ◌≤◌, ◌+◌, ◌-◌, ℕ, length, None}
use Rattle.net_form.specs.Admitted.{strand_at}
use Rattle.net_form.specs.Index.{first_layer}
use Rattle.net_gate.specs.InUse.{Stands}
use Rattle.net_form.proofs.PathUses.{uses}
use Rattle.net_gate.proofs.bundles.go_along.Given as goal

abbrev pub invariant-loop-rest : goal.invariant-loop-rest
invariant-loop-rest l =
    let s = l.strand in
    let first = (strand_at l.net s).first in
    let base = first_layer l.net.blocks (strand_at l.net s).block.0 in record {
      long : length l.taken.regs ≡ length l.initial.taken.regs;
      mems : l.taken.mems ≡ l.initial.taken.mems;
      after : base ≤ l.layer;
      layer : l.layer + length l.rest ≡ base + first + length l.path;
      bound : (n r : ℕ) → uses l.net n r s (l.layer - base) None l.rest ≤
          uses l.net n r s first None l.path;
      stands : (c : ℕ → ℕ → ℕ) → Stands c l.initial.taken.regs l.initial.clash → Stands
          (λ n r. c n r + (uses l.net n r s first None l.path - uses l.net n r s (l.layer - base)
          None l.rest)) l.taken.regs l.clash;
    }

abbrev pub decreases-loop-rest : goal.decreases-loop-rest
decreases-loop-rest l = length l.rest
