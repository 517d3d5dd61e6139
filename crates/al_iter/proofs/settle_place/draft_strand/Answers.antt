use Rattle.std.proofs.Common.{◌≡◌, ◌∙◌, List, ap, sym, subst, arith}
use Rattle.std.proofs.lemmas.Int.{ints}
use Rattle.pra_base.specs.declared.ids.Place.{Place}
use Rattle.net_cost.specs.Models.{weights_of}
use Rattle.net_form.specs.declared.prices.Prices.{Prices}
use Rattle.net_form.specs.declared.routes.Ends.{Ends}
use Rattle.net_form.specs.declared.routes.Routes.{Routes}
use Rattle.net_form.specs.InUse.{UsesNothing}
use Rattle.net_dual.specs.Paths.{MayGo, path_in, path_price}
use Rattle.net_dual.specs.Priced.{edge_price}
use Rattle.net_path.specs.Desk.{path_of}
use Rattle.net_dual.proofs.Strands.{each_long}
use Rattle.al_laws.specs.Settled.{tied_ends}
use Rattle.al_iter.specs.SettleSums.{MayGoTied, free_price}
use Rattle.al_iter.specs.Staying.{StaysFree}
use Rattle.al_iter.proofs.StaysFree.{stays_least}
use Rattle.al_iter.proofs.SettleRows.{sizes_routes, routes_sizes, there}
use Rattle.al_iter.proofs.settle_place.draft_strand.Goals as goal

pub stays_free-requires-clause-routes : goal.stays_free-requires-clause-routes
stays_free-requires-clause-routes g c = sizes_routes c.args.net.now c.requires.net.formed
    c.args.spare.now.routes c.requires.spare.routes

-- one that stays in memory for nothing
pub returns-then-stays_free-clause-draft : goal.returns-then-stays_free-clause-draft
returns-then-stays_free-clause-draft g c = λ _.
    let net = c.args.net.now in
    let w = weights_of c.args.model.now in
    let s = c.args.strand in
    let has = sizes_routes net c.requires.net.formed c.args.spare.now.routes c.requires.spare.routes
    in
    let ps = path_in c.args.spare.now.routes s in
    let free = subst (λ (ends : Ends). StaysFree net ends s ps) c.tied_ends-ends.ensures
    (c.stays_free.ensures c.if-stays_free.true) in
    let least = (stays_least net c.requires.net (tied_ends net c.args.place s) s c.requires.strand
    ps (each_long net c.args.spare.now.routes has s c.requires.strand) free).least w
    c.args.spare.now.taken c.requires.kept.valid in
    record { goes = least.goes; least = least.least }

pub returns-then-stays_free-clause-cost : goal.returns-then-stays_free-clause-cost
returns-then-stays_free-clause-cost g c =
    let net = c.args.net.now in
    let s = c.args.strand in
    let has = sizes_routes net c.requires.net.formed c.args.spare.now.routes c.requires.spare.routes
    in
    let ps = path_in c.args.spare.now.routes s in
    let free = subst (λ (ends : Ends). StaysFree net ends s ps) c.tied_ends-ends.ensures
    (c.stays_free.ensures c.if-stays_free.true) in
    (stays_least net c.requires.net (tied_ends net c.args.place s) s c.requires.strand ps
    (each_long net c.args.spare.now.routes has s c.requires.strand) free).cost
    (weights_of c.args.model.now) c.requires.kept.valid

pub write_path-requires-clause-routes : goal.write_path-requires-clause-routes
write_path-requires-clause-routes g c = sizes_routes c.args.net.now c.requires.net.formed
    c.args.spare.now.routes c.requires.spare.routes

pub returns-in-Err-clause-none : goal.returns-in-Err-clause-none
returns-in-Err-clause-none g c = λ _ ps may. c.in-Err.ensures.none ps
    (subst (λ (ends : Ends). MayGo c.args.net.now ends
    (UsesNothing c.args.net.now c.args.spare.now.taken) c.args.strand ps)
    (sym c.tied_ends-ends.ensures) may)

pub returns-in-Ok-clause-spare : goal.returns-in-Ok-clause-spare
returns-in-Ok-clause-spare g c = record {
  taken = c.requires.spare.taken;
  routes = routes_sizes c.args.net.now c.requires.net.formed c.write_path.new.routes
      c.write_path.ensures.routes;
  zero = c.requires.spare.zero;
}

pub returns-in-Ok-clause-draft : goal.returns-in-Ok-clause-draft
returns-in-Ok-clause-draft g c = λ _.
    let net = c.args.net.now in
    let w = weights_of c.args.model.now in
    let s = c.args.strand in
    let taken = c.args.spare.now.taken in
    let has = sizes_routes net c.requires.net.formed c.args.spare.now.routes c.requires.spare.routes
    in
    let path : path_in c.write_path.new.routes s ≡ path_of c.least.new.work =
    ap (λ (rs : Routes). path_in rs s) c.write_path.ensures.path
    ∙ there net c.args.spare.now.routes has s c.requires.strand c.path.result.now
    ∙ c.path.ensures in
    let found = c.in-Ok.ensures.found in
    record {
      goes = subst (λ (ps : List Place). MayGoTied net taken c.args.place s ps) (sym path)
          (subst (λ (ends : Ends). MayGo net ends (UsesNothing net taken) s
          (path_of c.least.new.work)) c.tied_ends-ends.ensures found.goes);
      least = λ ps may.
          let le = found.least ps (subst (λ (ends : Ends). MayGo net ends (UsesNothing net taken) s
          ps) (sym c.tied_ends-ends.ensures) may) in
          let mine = ap (free_price net w s) path in
          let zero_ = c.requires.spare.zero in
          let one = ap (λ (prices : Prices). path_price net (edge_price net w prices) s ps) zero_ in
          let two = ap (λ (prices : Prices). path_price net (edge_price net w prices) s
          (path_of c.least.new.work)) zero_ in
          omega (arith, ints, le, mine, one, two);
    }
