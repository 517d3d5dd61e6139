use Rattle.std.proofs.Common.{sym, arith}
use Rattle.net_form.proofs.RoutesConserve.{as_many}
use Rattle.net_gate.proofs.Paths.{no_place}
use Rattle.net_gate.proofs.places.place_at.Goals as goal

pub returns-then-strand-len : goal.returns-then-strand-len
returns-then-strand-len c =
    sym (no_place c.args.net.now c.args.routes.now c.args.strand c.args.layer c.requires
    (omega arith))

pub place_within-requires : goal.place_within-requires
place_within-requires c =
    let n = as_many c.args.net.now.strands c.args.routes.now.places c.requires in
    record { strand = omega arith; path = omega (arith, n) }
