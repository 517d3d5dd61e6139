use Rattle.std.proofs.Common.{◌≡◌, ◌<◌, ℕ, [], length, get_or}
use Rattle.net_form.specs.Admitted.{strand_at}
use Rattle.cert_check.proofs.routes.are_routes.Given as goal

abbrev pub invariant-loop-strand : goal.invariant-loop-strand
invariant-loop-strand l =
    (s : ℕ) → s < l.strand → length (get_or l.routes.places s []) ≡ length (strand_at l.net s).masks
