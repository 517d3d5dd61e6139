use Rattle.std.proofs.Common.{◌≡◌, ◌<◌, List, length, sym, ap, subst, ◌∙◌, arith}
use Rattle.std.proofs.lemmas.Int.{ints}
use Rattle.pra_base.specs.declared.ids.Place.{Place}
use Rattle.net_cost.specs.Models.{weights_of}
use Rattle.net_form.specs.declared.routes.Ends.{Ends}
use Rattle.net_form.specs.declared.routes.Routes.{Routes}
use Rattle.net_form.specs.Admitted.{IsAdmitted}
use Rattle.net_form.specs.Cost.{cost_of}
use Rattle.net_form.specs.Flow.{flow}
use Rattle.net_form.specs.InUse.{UsesNothing, Takes, Releases}
use Rattle.net_dual.specs.Paths.{MayGo, path_edges, path_price}
use Rattle.net_dual.specs.Priced.{edge_price}
use Rattle.net_form.specs.Rooms.{zero_prices}
use Rattle.net_path.specs.Desk.{path_of}
use Rattle.al_laws.specs.Parts.{with_path}
use Rattle.al_laws.specs.Settled.{block_ends}
use Rattle.al_iter.proofs.SettleStrand.{spare_with, others_of, one_out, one_in}
use Rattle.al_iter.proofs.SettleStrand.{none_cheaper, put_admitted, put_marked}
use Rattle.al_iter.proofs.SettleStrand.{put_lower, nothing_cheaper}
use Rattle.al_iter.proofs.settle_strand.change_strand.Goals as goal

pub returns-then-price-eq0-clause-settled : goal.returns-then-price-eq0-clause-settled
returns-then-price-eq0-clause-settled g c = λ _.
    let net = c.args.net.now in
    let w = weights_of c.args.model.now in
    let s = c.args.strand in
    let path = ap (λ (ps : List Place). path_price net (edge_price net w (zero_prices net)) s ps)
    c.path_at.ensures.path in
    nothing_cheaper net w c.args.routes.now s
    (omega (arith, ints, path, c.price_now-price.ensures.value, c.if-price-eq0.true))

pub returns-then-not-find_cheaper-clause-state : goal.returns-then-not-find_cheaper-clause-state
returns-then-not-find_cheaper-clause-state g c =
    let net = c.args.net.now in
    let routes = c.args.routes.now in
    let s = c.args.strand in
    let state = c.requires.state in
    let out = one_out net c.requires.net routes state.are_routes state.admitted s c.requires.strand
    c.args.spare.now.taken c.release_path.new.self state.marked
    (subst (λ (ps : List Place). Releases net (path_edges net s ps) c.args.spare.now.taken
    c.release_path.new.self) c.path_at-2.ensures.path c.release_path.ensures.releases) in
    record {
      room = spare_with net c.args.spare.now c.take_path.new.self state.room
          c.take_path.ensures.room;
      are_routes = state.are_routes;
      admitted = state.admitted;
      marked = one_in net c.requires.net routes state.are_routes state.admitted s c.requires.strand
          c.release_path.new.self c.take_path.new.self out
          (subst (λ (ps : List Place). Takes net (path_edges net s ps) c.release_path.new.self
          c.take_path.new.self) c.path_at-then-not-find_cheaper.ensures.path
          c.take_path.ensures.takes);
    }

pub returns-then-not-find_cheaper-clause-settled : goal.returns-then-not-find_cheaper-clause-settled
returns-then-not-find_cheaper-clause-settled g c = λ _.
    let net = c.args.net.now in
    let w = weights_of c.args.model.now in
    let routes = c.args.routes.now in
    let s = c.args.strand in
    let state = c.requires.state in
    let out = one_out net c.requires.net routes state.are_routes state.admitted s c.requires.strand
    c.args.spare.now.taken c.release_path.new.self state.marked
    (subst (λ (ps : List Place). Releases net (path_edges net s ps) c.args.spare.now.taken
    c.release_path.new.self) c.path_at-2.ensures.path c.release_path.ensures.releases) in
    let same : ◌≡◌ {A = Ends}
    (record { first = c.entry_place.result; last = c.exit_place.result })
    (block_ends net routes s) =
    λ i. record { first = c.entry_place.ensures i; last = c.exit_place.ensures i } in
    let path = ap (λ (ps : List Place). path_price net (edge_price net w (zero_prices net)) s ps)
    c.path_at.ensures.path in
    none_cheaper net c.requires.net routes state.are_routes state.admitted s c.requires.strand w
    c.release_path.new.self out c.price_now-price.result
    (c.price_now-price.ensures.value ∙ path)
    (λ ps may.
    let le = c.find_cheaper.ensures.none c.if-not-find_cheaper.true ps
    (subst (λ (ends : Ends). MayGo net ends (UsesNothing net c.release_path.new.self) s ps)
    (sym same) may) in
    omega (arith, ints, le, c.price_now-price.ensures.least, c.price_now-price.ensures.most))

pub write_path-requires-clause-path : goal.write_path-requires-clause-path
write_path-requires-clause-path g c =
    let long = (c.find_cheaper.ensures.goes c.if-not-find_cheaper.false).path.long in
    let same = ap (λ (ps : List Place). length ps) c.path.ensures in
    omega (arith, long, same)

pub returns-clause-state : goal.returns-clause-state
returns-clause-state g c =
    let net = c.args.net.now in
    let w = weights_of c.args.model.now in
    let routes = c.args.routes.now in
    let s = c.args.strand in
    let state = c.requires.state in
    let ps = path_of c.find_cheaper.new.work in
    let out = one_out net c.requires.net routes state.are_routes state.admitted s c.requires.strand
    c.args.spare.now.taken c.release_path.new.self state.marked
    (subst (λ (ps : List Place). Releases net (path_edges net s ps) c.args.spare.now.taken
    c.release_path.new.self) c.path_at-2.ensures.path c.release_path.ensures.releases) in
    let same : ◌≡◌ {A = Ends}
    (record { first = c.entry_place.result; last = c.exit_place.result })
    (block_ends net routes s) =
    λ i. record { first = c.entry_place.ensures i; last = c.exit_place.ensures i } in
    let may = subst (λ (ends : Ends). MayGo net ends (UsesNothing net c.release_path.new.self) s ps)
    same (c.find_cheaper.ensures.goes c.if-not-find_cheaper.false) in
    let is : c.write_path.new.routes ≡ with_path routes s ps =
    c.write_path.ensures.path ∙ ap (with_path routes s) c.path.ensures in
    let admitted = put_admitted net c.requires.net routes state.are_routes state.admitted s
    c.requires.strand w c.release_path.new.self out ps may in
    let marked = put_marked net c.requires.net routes state.are_routes state.admitted s
    c.requires.strand w c.release_path.new.self out ps may in
    let now_admitted = subst (λ (rs : Routes). IsAdmitted net (flow net rs)) (sym is) admitted in
    record {
      room = spare_with net c.args.spare.now c.take_path-2.new.self state.room
          c.take_path-2.ensures.room;
      are_routes = c.write_path.ensures.routes;
      admitted = now_admitted;
      marked = one_in net c.requires.net c.write_path.new.routes c.write_path.ensures.routes
          now_admitted s c.requires.strand c.release_path.new.self c.take_path-2.new.self
          (subst (λ (rs : Routes). others_of net s rs c.release_path.new.self) (sym is) marked)
          (subst (λ (ps : List Place). Takes net (path_edges net s ps) c.release_path.new.self
          c.take_path-2.new.self) c.path_at-3.ensures.path c.take_path-2.ensures.takes);
    }

pub returns-clause-lower : goal.returns-clause-lower
returns-clause-lower g c = λ _.
    let net = c.args.net.now in
    let w = weights_of c.args.model.now in
    let routes = c.args.routes.now in
    let s = c.args.strand in
    let state = c.requires.state in
    let ps = path_of c.find_cheaper.new.work in
    let out = one_out net c.requires.net routes state.are_routes state.admitted s c.requires.strand
    c.args.spare.now.taken c.release_path.new.self state.marked
    (subst (λ (ps : List Place). Releases net (path_edges net s ps) c.args.spare.now.taken
    c.release_path.new.self) c.path_at-2.ensures.path c.release_path.ensures.releases) in
    let same : ◌≡◌ {A = Ends}
    (record { first = c.entry_place.result; last = c.exit_place.result })
    (block_ends net routes s) =
    λ i. record { first = c.entry_place.ensures i; last = c.exit_place.ensures i } in
    let may = subst (λ (ends : Ends). MayGo net ends (UsesNothing net c.release_path.new.self) s ps)
    same (c.find_cheaper.ensures.goes c.if-not-find_cheaper.false) in
    let is : c.write_path.new.routes ≡ with_path routes s ps =
    c.write_path.ensures.path ∙ ap (with_path routes s) c.path.ensures in
    let less = c.find_cheaper.ensures.cheaper c.if-not-find_cheaper.false in
    let path = ap (λ (ps : List Place). path_price net (edge_price net w (zero_prices net)) s ps)
    c.path_at.ensures.path in
    subst (λ (rs : Routes). cost_of net w (flow net rs) < cost_of net w (flow net routes)) (sym is)
    (put_lower net c.requires.net routes state.are_routes state.admitted s
    c.requires.strand w c.release_path.new.self out ps may
    (omega (arith, ints, less, path, c.price_now-price.ensures.value)))
