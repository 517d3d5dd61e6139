use Rattle.std.proofs.Common.{◌≡◌, ℕ, ◌<◌, [], length, get_or}
use Rattle.net_form.specs.Admitted.{strand_at}
use Rattle.net_path.proofs.family.no_paths.Given as goal

abbrev pub invariant-loop-strand : goal.invariant-loop-strand
invariant-loop-strand l = record {
  many : length l.places ≡ l.strand-index;
  each : (s : ℕ) → s < l.strand-index →
      length (get_or l.places s []) ≡ length (strand_at l.net s).masks;
}
