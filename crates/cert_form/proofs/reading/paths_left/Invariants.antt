use Rattle.std.proofs.Common.{None, length}
use Rattle.cert_form.specs.Form.{path_data}
use Rattle.cert_form.specs.Streams.{rests, AreFew}
use Rattle.cert_form.proofs.Gathered.{Gathers}
use Rattle.cert_form.proofs.reading.paths_left.Given as goal

abbrev pub invariant-paths : goal.invariant-paths
invariant-paths l =
    Gathers path_data (λ n p. AreFew (λ k q. Unit {0}) None p) None
    (rests l.depth l.initial.reader) l.paths (rests l.depth l.reader)

abbrev pub decreases-paths : goal.decreases-paths
decreases-paths l = length l.reader
