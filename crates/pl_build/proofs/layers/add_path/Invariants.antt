use Rattle.std.proofs.Common.{◌≡◌, ◌≤◌, ◌+◌, ◌-◌, ◌++◌, ℕ, length, None}
use Rattle.net_form.specs.Admitted.{strand_at}
use Rattle.net_form.specs.Flow.{edges}
use Rattle.net_form.specs.Index.{first_layer}
use Rattle.pl_build.specs.Layers.{layer, pairs_into}
use Rattle.pl_build.proofs.layers.add_path.Given as goal

abbrev pub invariant-loop-rest : goal.invariant-loop-rest
invariant-loop-rest l =
    let s = l.strand in
    let first = (strand_at l.net s).first in
    let base = first_layer l.net.blocks (strand_at l.net s).block.0 in record {
      long : length l.layers.items ≡ length l.initial.layers.items;
      after : base ≤ l.at;
      until : l.at + length l.rest ≡ base + first + length l.path;
      adds : (n : ℕ) → layer l.layers.items n ++ pairs_into l.code l.net n
          (edges s (l.at - base) l.from l.rest)
          ≡ layer l.initial.layers.items n ++ pairs_into l.code l.net n (edges s first None l.path);
    }

abbrev pub decreases-loop-rest : goal.decreases-loop-rest
decreases-loop-rest l = length l.rest
