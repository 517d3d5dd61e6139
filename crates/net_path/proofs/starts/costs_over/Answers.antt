use Rattle.std.proofs.Common.{ap, refl, length, None, arith}
use Rattle.std.proofs.lemmas.List.{get_or_read}
use Rattle.pra_base.specs.Places.{number}
use Rattle.net_cost.specs.Models.{weights_of}
use Rattle.net_form.specs.declared.net.Strand.{Strand}
use Rattle.net_form.specs.declared.routes.Ends.{Ends}
use Rattle.net_form.specs.Admitted.{no_strand}
use Rattle.net_path.specs.Grounds.{is_free}
use Rattle.net_path.specs.Rows.{costs_at}
use Rattle.net_path.specs.Ways.{start_price}
use Rattle.net_path.proofs.Grounded.{rows_ready}
use Rattle.net_path.proofs.CostsFrom.{cost_from}
use Rattle.net_path.proofs.starts.costs_over.Goals as goal

pub start_costs-requires-clause-row : goal.start_costs-requires-clause-row
start_costs-requires-clause-row g c =
    let order = (c.requires.net.formed.strands c.args.strand no_strand c.requires.strand).order in
    c.pay_backward.ensures.debts 0 (omega (
      arith,
      order,
      c.requires.rows,
      c.pay_backward.ensures.long,
    ))

pub returns : goal.returns
returns g c = λ p lt.
    let net = c.args.net.now in
    let w = weights_of c.args.model.now in
    let s = c.args.strand in
    let n = length c.args.rows.now in
    let t =
    get_or_read net.strands s c.index.result.now c.requires.strand c.index.ensures no_strand in
    let u = get_or_read net.strands s c.index-2.result.now c.requires.strand c.index-2.ensures
    no_strand in
    let ends : Ends = record { first = None; last = c.args._last } in
    let constant = c.index-2.result.now.constant in
    let row = costs_at c.pay_backward.new.rows in
    let are = rows_ready net c.requires.net c.args._prices.now c.requires.prices
    w c.requires.kept.valid ends (is_free net c.args._taken.now) s n c.requires.rows
    c.ways_of-ways.result c.forwards.result c.depth.result c.index.result.now.first
    (length c.args.rows.now)
    constant row c.args.rows.now c.forwards.ensures.steps c.ways_of-ways.ensures.are
    c.depth.ensures.value
    (ap (λ (t : Strand). t.first) t) refl
    (ap (λ (t : Strand). t.constant) u) c.requires.cells c.pay_backward.ensures.rows in
    cost_from net c.requires.net c.args._prices.now c.requires.prices w c.requires.kept.valid
    c.args._last c.args._taken.now s n c.requires.strand c.requires.rows row are.rows p
    (start_price c.ways_of-ways.result constant) (are.way p) _
    (c.start_costs.ensures (number p) lt)
