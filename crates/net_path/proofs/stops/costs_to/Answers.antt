use Rattle.std.proofs.Common.{List, length, ap, arith}
use Rattle.std.proofs.lemmas.List.{get_or_read}
use Rattle.net_form.specs.declared.net.Strand.{Strand}
use Rattle.net_form.specs.Admitted.{no_strand}
use Rattle.net_path.specs.declared.crossbar.Row.{Row}
use Rattle.net_path.proofs.stops.costs_to.Goals as goal

pub costs_front-requires-clause-rows : goal.costs_front-requires-clause-rows
costs_front-requires-clause-rows g c =
    let t = ap (λ (t : Strand). length t.masks) (get_or_read c.args.net.now.strands c.args.strand
    c.index.result.now c.requires.strand c.index.ensures no_strand) in
    let room = c.requires.work.rows c.args.strand c.requires.strand in
    let same = ap (λ (rows : List Row). length rows) c.deref_mut.ensures.value in
    omega (arith, t, room, same, c.len-layers.ensures)
