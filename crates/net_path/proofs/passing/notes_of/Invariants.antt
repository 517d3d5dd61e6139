use Rattle.std.proofs.Common.{ℕ, ◌≡◌, ◌<◌, length, get_or}
use Rattle.net_path.specs.Passing.{IsNote}
use Rattle.net_path.proofs.passing.notes_of.Given as goal

abbrev pub invariant-loop-strand : goal.invariant-loop-strand
invariant-loop-strand l = record {
  long : length l.notes.items ≡ l.strand;
  each : (s : ℕ) → s < l.strand → IsNote l.net s (get_or l.notes.items s 0);
}
