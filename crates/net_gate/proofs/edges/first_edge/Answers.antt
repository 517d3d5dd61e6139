use Rattle.std.proofs.Common.{List, [], length, subst, ap, arith, count_by, None, Some}
use Rattle.pra_base.specs.declared.ids.Place.{Place}
use Rattle.net_form.specs.Admitted.{strand_at, no_strand}
use Rattle.net_form.specs.Flow.{edges}
use Rattle.net_form.proofs.RoutesConserve.{as_many}
use Rattle.net_gate.specs.Broken.{breaks, IsFirstLayer}
use Rattle.net_gate.proofs.Paths.{places_at}
use Rattle.net_gate.proofs.EdgeRules.{first_here, none_here, none_anywhere}
use Rattle.net_gate.proofs.edges.first_edge.Goals as goal

pub at-path-requires : goal.at-path-requires
at-path-requires c =
    let n = as_many c.args.net.now.strands c.args.routes.now.places c.requires.routes in
    omega (arith, n)

pub first_layer-requires-clause-path : goal.first_layer-requires-clause-path
first_layer-requires-clause-path c =
    let long = places_at c.args.net.now.strands c.args.routes.now.places c.loop-at.at no_strand
    [] c.requires.routes (omega arith) in
    let row = ap length c.at-path.ensures in
    omega (arith, long, row)

pub returns-in-Some : goal.returns-in-Some
returns-in-Some c =
    let net = c.args.net.now in
    let rs = c.args.routes.now.places in
    let i = c.loop-at.at in
    let row = c.at-path.ensures in
    first_here net c.args.rule c.args.routes.now c.requires.routes i c.in-Some.layer (omega arith)
    (subst (λ (r : List Place). IsFirstLayer
    (λ l. count_by (breaks net c.args.rule i l) (edges i (strand_at net i).first None r))
    (Some c.in-Some.layer)) row c.in-Some.ensures)
    c.loop-at.invariant

pub loop-at-preserved : goal.loop-at-preserved
loop-at-preserved c =
    let net = c.args.net.now in
    let rs = c.args.routes.now.places in
    let i = c.loop-at.at in
    let row = c.at-path.ensures in
    none_here net c.args.rule c.args.routes.now c.requires.routes i (omega arith)
    (subst (λ (r : List Place). IsFirstLayer
    (λ l. count_by (breaks net c.args.rule i l) (edges i (strand_at net i).first None r)) None)
    row c.in_default.ensures)
    c.loop-at.invariant

pub returns : goal.returns
returns c = λ s k. none_anywhere c.args.net.now c.args.rule c.args.routes.now c.requires.routes s
    (λ r k lt. c.loop-at.invariant r k (omega (arith, lt))) k
