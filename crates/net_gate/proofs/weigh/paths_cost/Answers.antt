use Rattle.std.proofs.Common.{ℕ, ◌<◌, List, [], length, ap, arith, sum_by, None}
use Rattle.pra_base.specs.declared.ids.Place.{Place}
use Rattle.net_cost.specs.Models.{weights_of}
use Rattle.net_form.specs.Admitted.{no_strand, strand_at}
use Rattle.net_form.specs.Cost.{way_cost}
use Rattle.net_form.specs.Flow.{Edge, edges}
use Rattle.net_form.specs.Tables.{all_tables}
use Rattle.net_form.proofs.RoutesConserve.{as_many}
use Rattle.net_gate.proofs.Paths.{sum_drop, path_few}
use Rattle.net_gate.proofs.weigh.paths_cost.Goals as goal

pub at-requires : goal.at-requires
at-requires g c =
    let n = as_many c.args.net.now.strands c.args.routes.now.places c.requires.routes in
    omega (arith, n)

pub path_cost-requires-clause-few : goal.path_cost-requires-clause-few
path_cost-requires-clause-few g c =
    let lt : c.loop-at.at < length c.args.net.now.strands = omega arith in
    let few = path_few c.args.net.now c.args.routes.now c.loop-at.at []
    c.requires.net c.requires.routes lt in
    let row = ap length c.at.ensures in
    omega (arith, few, row)

pub loop-at-preserved : goal.loop-at-preserved
loop-at-preserved g c =
    let net = c.args.net.now in
    let rs = c.args.routes.now.places in
    let i = c.loop-at.at in
    let w : Edge → ℕ = way_cost all_tables net (weights_of c.args.model.now) in
    let lt : i < length net.strands = omega arith in
    let n = as_many net.strands rs c.requires.routes in
    let step = sum_drop w net.strands rs i no_strand [] lt (omega (arith, lt, n)) in
    let this = c.path_cost.ensures.value in
    let moved = ap (λ (r : List Place). sum_by w (edges i (strand_at net i).first None r))
    c.at.ensures in
    record {
      whole = omega (arith, step, this, moved, c.loop-at.invariant.whole);
      small = omega (arith, c.path_cost.ensures.small, c.loop-at.invariant.small);
    }
