use Rattle.std.proofs.Common.{◌≡◌, ℕ, true, List, pos, refl, sym, ◌∙◌, subst, arith}
use Rattle.pra_base.specs.declared.ids.Place.{Place}
use Rattle.std.proofs.lemmas.Int.{ints}
use Rattle.net_cost.specs.Models.{weights_of}
use Rattle.net_form.specs.declared.taken.Taken.{Taken}
use Rattle.net_form.specs.InUse.{StandsFor}
use Rattle.al_laws.specs.Parts.{rest}
use Rattle.al_iter.specs.SettleState.{among}
use Rattle.al_iter.specs.SettleSums.{MayGoTied, IsDraft}
use Rattle.al_iter.proofs.SettleRows.{sizes_routes}
use Rattle.al_iter.proofs.SettleShut.{shut_pay, pay_less, pay_nothing}
use Rattle.al_iter.proofs.SettleSums.{of_each}
use Rattle.al_iter.proofs.SettleVariable.{sum_positive, sum_same, pay_all, marks_stay, put_strands}
use Rattle.al_iter.proofs.settle_variable.try_place.Goals as goal

pub returns-then-price-eq0-clause-least : goal.returns-then-price-eq0-clause-least
returns-then-price-eq0-clause-least g c =
    pay_less c.args.net.now (weights_of c.args.model.now) c.args.spare.now.taken
    c.args.strands.now c.args.place _ (pos 0)
    (omega (arith, ints, c.if-price-eq0.true))
    (pay_nothing c.args.net.now (weights_of c.args.model.now) c.args.spare.now.taken
    c.args.strands.now c.args.place)

pub returns-then-not-allows-clause-least : goal.returns-then-not-allows-clause-least
returns-then-not-allows-clause-least g c =
    let positive = sum_positive c.args.net.now (weights_of c.args.model.now) c.args.routes.now
    c.args.strands.now in
    shut_pay c.args.net.now (weights_of c.args.model.now) c.args.spare.now.taken
    c.args.strands.now c.args.place _
    (omega (arith, ints, c.requires.price, c.requires.most, positive))
    (c.requires.places (sym c.allows.ensures ∙ c.if-not-allows.true))

pub draft_strands-draft-requires-clause-least : goal.draft_strands-draft-requires-clause-least
draft_strands-draft-requires-clause-least g c =
    let positive = sum_positive c.args.net.now (weights_of c.args.model.now) c.args.routes.now
    c.args.strands.now in
    omega (arith, ints, c.requires.price, c.requires.most, positive, c.if-price-eq0.false)

pub write_paths-requires-clause-draft : goal.write_paths-requires-clause-draft
write_paths-requires-clause-draft g c = sizes_routes c.args.net.now c.requires.net.formed
    c.draft_strands-draft.new.spare.routes c.in-Some.ensures.spare.routes

pub returns-clause-aside : goal.returns-clause-aside
returns-clause-aside g c =
    let net = c.args.net.now in
    let strands = c.args.strands.now in
    let old = c.args.routes.now in
    let new = c.write_paths.new.routes in
    let aside = c.requires.aside in
    let draft = c.draft_strands-draft.new.spare.routes in
    let now = c.in-Some.ensures in
    let may = λ (s : ℕ) (is : among strands s ≡ true).
    subst (λ (ps : List Place). MayGoTied net c.args.spare.now.taken c.args.place s ps)
    (sym (c.write_paths.ensures.mine s is))
    (of_each (λ s. IsDraft net (weights_of c.args.model.now) c.args.spare.now.taken c.args.place
    draft s) strands (now.drafts refl) s is).goes in
    record {
      room = now.spare;
      are_routes = c.write_paths.ensures.routes;
      admitted = put_strands net c.requires.net strands c.requires.strands old new aside.are_routes
          c.write_paths.ensures.routes c.write_paths.ensures.others
          (weights_of c.args.model.now) aside.admitted c.args.spare.now.taken c.args.place
          aside.marked may;
      marked = subst (λ (t : Taken). StandsFor net t (rest net (among strands) new))
          (sym now.taken)
          (marks_stay net c.requires.net strands c.requires.strands old new aside.are_routes
          c.write_paths.ensures.routes c.write_paths.ensures.others c.args.spare.now.taken
          aside.marked);
    }

pub returns-clause-price : goal.returns-clause-price
returns-clause-price g c =
    let net = c.args.net.now in
    let w = weights_of c.args.model.now in
    let strands = c.args.strands.now in
    let draft = c.draft_strands-draft.new.spare.routes in
    let positive = sum_positive net w draft strands in
    let same = sum_same net w c.write_paths.new.routes draft strands c.write_paths.ensures.mine in
    omega (
      arith,
      ints,
      positive,
      same,
      c.in-Some.ensures.sum,
      c.in-Some.ensures.less,
      c.requires.most,
    )

pub returns-clause-least : goal.returns-clause-least
returns-clause-least g c =
    let net = c.args.net.now in
    let w = weights_of c.args.model.now in
    let strands = c.args.strands.now in
    let draft = c.draft_strands-draft.new.spare.routes in
    let positive = sum_positive net w draft strands in
    pay_less net w c.args.spare.now.taken strands c.args.place _ _
    (omega (arith, ints, positive, c.in-Some.ensures.sum, c.in-Some.ensures.less, c.requires.most))
    (pay_all net w c.args.spare.now.taken strands c.args.place draft
    (c.in-Some.ensures.drafts refl))
