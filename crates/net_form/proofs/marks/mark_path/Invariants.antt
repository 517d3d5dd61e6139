use Rattle.std.proofs.Common.{◌≡◌, ◌≤◌, ◌+◌, ◌-◌, ℕ, length, None}
use Rattle.net_form.specs.Admitted.{strand_at}
use Rattle.net_form.specs.Index.{first_layer}
use Rattle.net_form.specs.InUse.{mark, after}
use Rattle.net_form.proofs.PathUses.{uses}
use Rattle.net_form.proofs.marks.mark_path.Given as goal

abbrev pub invariant-loop-rest : goal.invariant-loop-rest
invariant-loop-rest l =
    let s = l.strand in
    let first = (strand_at l.net s).first in
    let base = first_layer l.net.blocks (strand_at l.net s).block.0 in record {
      long : length l.regs ≡ length l.initial.regs;
      begun : base ≤ l.layer;
      layer : l.layer + length l.rest ≡ base + first + length l.path;
      bound : (n r : ℕ) → uses l.net n r s (l.layer - base) None l.rest ≤
          uses l.net n r s first None l.path;
      marks : (n r : ℕ) → mark l.regs n r ≡ after l.used (mark l.initial.regs n r)
          (uses l.net n r s first None l.path - uses l.net n r s (l.layer - base) None l.rest);
    }

abbrev pub decreases-loop-rest : goal.decreases-loop-rest
decreases-loop-rest l = length l.rest
