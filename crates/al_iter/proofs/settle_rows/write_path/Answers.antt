use Rattle.std.proofs.Common.{◌≡◌, List, [], arith, ap, subst, sym, ◌∙◌}
use Rattle.std.proofs.lemmas.List.{set-get_or}
use Rattle.pra_base.specs.declared.ids.Place.{Place}
use Rattle.net_form.specs.declared.routes.Routes.{Routes}
use Rattle.net_form.specs.Flow.{AreRoutes}
use Rattle.net_dual.proofs.Strands.{each_long}
use Rattle.al_laws.specs.Parts.{with_path}
use Rattle.al_iter.proofs.SettleRows.{in_places, still_routes}
use Rattle.al_iter.proofs.settle_rows.write_path.Goals as goal

pub is_same_path-requires : goal.is_same_path-requires
is_same_path-requires c = let long = c.path_at.ensures.long in
    omega (arith, long, c.requires.path)

-- what is there already
pub returns-then-is_same_path-clause-path : goal.returns-then-is_same_path-clause-path
returns-then-is_same_path-clause-path c =
    let routes : Routes = c.args.routes.now in
    let s = c.args.strand in
    sym (ap (λ (ps : List Place). with_path routes s ps)
    (c.is_same_path.ensures c.if-is_same_path.true ∙ c.path_at.ensures.path)
    ∙ ap (λ (rs : List (List Place)). record { places = rs })
    (set-get_or routes.places s []))

pub overwrite-requires-clause-at : goal.overwrite-requires-clause-at
overwrite-requires-clause-at c = in_places c.args._net.now c.args.routes.now c.requires.routes
    c.args.strand c.requires.strand

pub overwrite-requires-clause-long : goal.overwrite-requires-clause-long
overwrite-requires-clause-long c =
    let long = each_long c.args._net.now c.args.routes.now c.requires.routes c.args.strand
    c.requires.strand in
    omega (arith, long, c.requires.path)

pub returns-clause-path : goal.returns-clause-path
returns-clause-path c =
    ap (λ (rs : List (List Place)). record { places = rs }) c.overwrite.ensures

pub returns-clause-routes : goal.returns-clause-routes
returns-clause-routes c =
    let routes : Routes = c.args.routes.now in
    let is : ◌≡◌ {A = Routes} (record { places = c.overwrite.new.self })
    (with_path routes c.args.strand c.args.path.now) =
    ap (λ (rs : List (List Place)). record { places = rs }) c.overwrite.ensures in
    subst (AreRoutes c.args._net.now) (sym is)
    (still_routes c.args._net.now c.args.routes.now c.requires.routes c.args.strand
    c.requires.strand c.args.path.now c.requires.path)
