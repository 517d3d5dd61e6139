use Rattle.std.proofs.Common.{◌≡◌, ◌∙◌, List, get_or, ap, sym, subst, [], get_or-set_same}
use Rattle.std.proofs.Common.{arith}
use Rattle.pra_base.specs.declared.ids.Place.{Place}
use Rattle.net_cost.specs.Models.{weights_of}
use Rattle.net_dual.specs.Priced.{edge_price}
use Rattle.net_dual.specs.Paths.{IsLeast, Anywhere, any_ends, path_in}
use Rattle.net_path.proofs.Renewed.{least_anywhere, never_none}
use Rattle.net_path.proofs.family.renew_over.Goals as goal

pub returns-in-Err-clause-least : goal.returns-in-Err-clause-least
returns-in-Err-clause-least g c = absurd (never_none c.args.net.now c.args.free.now c.requires.free
    c.requires.net c.args.strand c.requires.strand c.in-Err.ensures.none)

pub returns-in-Err-clause-cost : goal.returns-in-Err-clause-cost
returns-in-Err-clause-cost g c = absurd (never_none c.args.net.now c.args.free.now c.requires.free
    c.requires.net c.args.strand c.requires.strand c.in-Err.ensures.none)

pub returns-in-Ok-clause-least : goal.returns-in-Ok-clause-least
returns-in-Ok-clause-least g c =
    let net = c.args.net.now in
    let price = edge_price net (weights_of c.args.model.now) c.args.prices.now in
    let found = least_anywhere net c.args.free.now c.requires.free price c.args.strand _
    c.in-Ok.ensures.found in
    let at : path_in (record { places = c.overwrite.new.self }) c.args.strand
    ≡ c.search_spread.new.path =
    ap (λ (rs : List (List Place)). get_or rs c.args.strand []) c.overwrite.ensures
    ∙ get_or-set_same c.args.family.now.places c.args.strand c.search_spread.new.path []
    (omega (arith, c.requires.family.many, c.requires.strand)) in
    subst (λ (ps : List Place). IsLeast net price any_ends Anywhere c.args.strand ps) (sym at) found
