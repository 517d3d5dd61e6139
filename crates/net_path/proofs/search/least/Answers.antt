use Rattle.std.proofs.Common.{List, length, ap, arith}
use Rattle.pra_base.specs.declared.ids.Place.{Place}
use Rattle.net_path.specs.declared.crossbar.Row.{Row}
use Rattle.net_path.proofs.search.least.Goals as goal

pub search_front-result-requires-clause-rows : goal.search_front-result-requires-clause-rows
search_front-result-requires-clause-rows g c =
    let room = c.requires.work.rows c.args.strand c.requires.strand in
    let same = ap (λ (rows : List Row). length rows) c.deref_mut.ensures.value in
    omega (arith, room, same, c.layers_by-layers.ensures)

pub search_front-result-requires-clause-path : goal.search_front-result-requires-clause-path
search_front-result-requires-clause-path g c =
    let room = c.requires.work.rows c.args.strand c.requires.strand in
    let long = c.args.work.now.as_long in
    let same = ap (λ (path : List Place). length path) c.deref_mut-2.ensures.value in
    omega (arith, room, long, same, c.layers_by-layers.ensures)
