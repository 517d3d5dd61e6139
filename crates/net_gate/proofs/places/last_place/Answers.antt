use Rattle.std.proofs.Common.{sym, arith}
use Rattle.net_form.specs.Admitted.{strand_at}
use Rattle.net_gate.proofs.Paths.{no_place}
use Rattle.net_gate.proofs.places.last_place.Goals as goal

pub returns-then-strand-len : goal.returns-then-strand-len
returns-then-strand-len c =
    sym (no_place c.args.net.now c.args.routes.now c.args.strand
    (strand_at c.args.net.now c.args.strand).last c.requires (omega arith))
