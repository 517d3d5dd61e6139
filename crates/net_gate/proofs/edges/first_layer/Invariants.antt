use Rattle.std.proofs.Common.{◌≡◌, ◌≤◌, ◌+◌, ℕ, length, count_by, None}
use Rattle.net_form.specs.Admitted.{strand_at}
use Rattle.net_form.specs.Flow.{edges}
use Rattle.net_gate.specs.Broken.{breaks}
use Rattle.net_gate.proofs.edges.first_layer.Given as goal

abbrev pub invariant-loop-rest : goal.invariant-loop-rest
invariant-loop-rest l = record {
  same : (k : ℕ) → count_by (breaks l.net l.rule l.strand k) (edges l.strand l.layer l.from l.rest)
      ≡ count_by (breaks l.net l.rule l.strand k)
      (edges l.strand (strand_at l.net l.strand).first None l.path);
  first : (strand_at l.net l.strand).first ≤ l.layer;
  layer : l.layer + length l.rest ≡ (strand_at l.net l.strand).first + length l.path;
}

abbrev pub decreases-loop-rest : goal.decreases-loop-rest
decreases-loop-rest l = length l.rest
