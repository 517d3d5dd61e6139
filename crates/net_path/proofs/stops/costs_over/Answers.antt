use Rattle.std.proofs.Common.{◌≡◌, ◌+◌, ◌%◌, ap, refl, sym, subst, length, None, arith}
use Rattle.std.proofs.lemmas.List.{get_or_read}
use Rattle.pra_base.specs.Places.{number}
use Rattle.net_cost.specs.Models.{weights_of}
use Rattle.net_form.specs.declared.net.Strand.{Strand}
use Rattle.net_form.specs.declared.routes.Ends.{Ends}
use Rattle.net_form.specs.Admitted.{no_strand, strand_at}
use Rattle.net_path.specs.Grounds.{is_free}
use Rattle.net_path.specs.Rows.{costs_at, AreCells, AreCellsWithin}
use Rattle.net_path.proofs.Grounded.{rows_back, no_start}
use Rattle.net_path.proofs.Turned.{turned_within}
use Rattle.net_path.proofs.CostsTo.{cost_to}
use Rattle.net_path.proofs.stops.costs_over.Goals as goal

pub pay_backward-requires-clause-cells : goal.pay_backward-requires-clause-cells
pay_backward-requires-clause-cells g c = subst AreCellsWithin (sym c.reverse.ensures.after)
    (turned_within c.args.rows.now c.requires.within)

pub returns : goal.returns
returns g c = λ p lt.
    let net = c.args.net.now in
    let prices = c.args._prices.now in
    let w = weights_of c.args.model.now in
    let s = c.args.strand in
    let n = length c.args.rows.now in
    let ends : Ends = record { first = c.args._first; last = None } in
    let free = is_free net c.args._taken.now in
    let t = get_or_read net.strands s c.index.result.now c.requires.strand c.index.ensures
    no_strand in
    let last : c.index.result.now.last ≡ (strand_at net s).last = ap (λ (t : Strand). t.last) t in
    let row = costs_at c.pay_backward.new.rows in
    let are = rows_back net c.requires.net prices c.requires.prices w c.requires.kept.valid ends
    free s n c.requires.rows c.ways_of-ways.result c.backwards.result c.depth.result
    ((c.index.result.now.last + 1) % 2) (length c.reverse.new.self) row c.args.rows.now
    c.backwards.ensures.steps c.ways_of-ways.ensures.are c.depth.ensures.value
    (omega (arith, last)) c.reverse.ensures.len refl c.requires.cells
    (λ t ground cells. c.pay_backward.ensures.rows t ground
    (subst (AreCells t) (sym c.reverse.ensures.after) cells)) in
    cost_to net c.requires.net prices c.requires.prices w c.requires.kept.valid c.args._first
    c.args._taken.now s n c.requires.strand c.requires.rows row
    (no_start net c.requires.net prices c.requires.prices w ends free s c.requires.value) are p
    c.ways_of-ways.result _ (c.start_costs.ensures (number p) lt)
