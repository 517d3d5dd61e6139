use Rattle.std.proofs.Common.{◌≡◌, map}
use Rattle.std.specs.List.{range_with_len}
use Rattle.net_form.specs.Admitted.{strand_at}
use Rattle.al_edge.specs.Choice.{place_for}
use Rattle.al_edge.proofs.routing.path_for.Given as goal

abbrev pub invariant-loop-j : goal.invariant-loop-j
invariant-loop-j l = l.path ≡ map (place_for l.net l.regs l.strand)
    (range_with_len (strand_at l.net l.strand).first l.j)
