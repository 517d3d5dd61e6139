use Rattle.std.proofs.Common.{◌≡◌, ◌++◌, List, [], length, get_or, None, ap, ◌∙◌, arith}
use Rattle.pra_base.specs.declared.ids.Place.{Place}
use Rattle.net_form.specs.Admitted.{strand_at, no_strand}
use Rattle.net_form.specs.Flow.{edges}
use Rattle.net_form.proofs.RoutesConserve.{as_many}
use Rattle.net_gate.proofs.Paths.{places_at}
use Rattle.pl_build.specs.Layers.{layer, pairs_into}
use Rattle.pl_build.proofs.Gathered.{strand_step}
use Rattle.pl_build.proofs.layers.layers_of.Goals as goal

pub at-path-requires : goal.at-path-requires
at-path-requires c =
    let many = as_many c.args.net.now.strands c.args.routes.now.places c.requires.routes in
    let lt = c.loop-strand-test.true in
    let all = c.len-strand-end.ensures in
    omega (arith, many, lt, all)

pub add_path-requires-clause-path : goal.add_path-requires-clause-path
add_path-requires-clause-path c =
    let ts = c.args.net.now.strands in
    let rs = c.args.routes.now.places in
    let s = c.loop-strand.strand in
    let lt = c.loop-strand-test.true in
    let all = c.len-strand-end.ensures in
    let many = as_many ts rs c.requires.routes in
    let path : c.at-path.result.now ≡ get_or rs s [] = c.at-path.ensures in
    let long = ap length path in
    let places = places_at ts rs s no_strand [] c.requires.routes (omega (arith, lt, all)) in
    omega (arith, long, places)

pub loop-strand-preserved : goal.loop-strand-preserved
loop-strand-preserved c =
    let net = c.args.net.now in
    let ts = net.strands in
    let rs = c.args.routes.now.places in
    let s = c.loop-strand.strand in
    let lt = c.loop-strand-test.true in
    let all = c.len-strand-end.ensures in
    let many = as_many ts rs c.requires.routes in
    let path : c.at-path.result.now ≡ get_or rs s [] = c.at-path.ensures in
    record {
      long = c.in_ok-add_path.ensures.long ∙ c.loop-strand.invariant.long;
      pairs = λ n.
          strand_step c.args.code.now net ts rs s n (layer c.loop-strand.layers.items n)
          (layer c.add_path.new.layers.items n) (omega (arith, lt, all))
          (omega (arith, many, lt, all))
          (c.in_ok-add_path.ensures.adds n
          ∙ ap (λ (ps : List Place). layer c.loop-strand.layers.items n
          ++ pairs_into c.args.code.now net n (edges s (strand_at net s).first None ps)) path)
          ∙ c.loop-strand.invariant.pairs n;
    }
