use Rattle.std.proofs.Common.{◌≡◌, ◌∙◌, sym, subst, arith, inl, inr}
use Rattle.std.proofs.lemmas.Int.{ints}
use Rattle.std.proofs.lemmas.Bool.{cases_eq}
use Rattle.pra_base.specs.declared.ids.Place.{Place}
use Rattle.pra_base.specs.declared.ids.Place.TheVariants.{Mem}
use Rattle.pra_base.specs.Places.{number}
use Rattle.pra_base.proofs.PlaceNumbers.{number_below}
use Rattle.net_cost.specs.Models.{weights_of}
use Rattle.net_form.specs.declared.taken.Taken.{Taken}
use Rattle.net_form.proofs.PlaceEquality.{number-injective}
use Rattle.al_iter.specs.SettleSums.{PayAtLeast, IsShut}
use Rattle.al_iter.proofs.SettleShut.{pay_less, pay_untied}
use Rattle.al_iter.proofs.SettleVariable.{sum_positive}
use Rattle.al_iter.proofs.settle_variable.try_places.Goals as goal

pub try_place-requires-clause-places : goal.try_place-requires-clause-places
try_place-requires-clause-places g c = λ no. c.open_places-places.ensures Mem no

pub try_place-least-requires-clause-places : goal.try_place-least-requires-clause-places
try_place-least-requires-clause-places g c = λ no.
    subst (λ (t : Taken). IsShut c.args.net.now t c.args.strands.now c.place_of-place.result)
    (sym c.loop-number.invariant.taken) (c.open_places-places.ensures c.place_of-place.result no)

pub loop-number-preserved : goal.loop-number-preserved
loop-number-preserved g c =
    let net = c.args.net.now in
    let w = weights_of c.args.model.now in
    let strands = c.args.strands.now in
    let taken = c.args.spare.now.taken in
    let inv = c.loop-number.invariant in
    let now = c.try_place-least.ensures in
    let positive = sum_positive net w c.try_place-least.new.routes strands in
    let here = subst (λ (t : Taken). PayAtLeast net w t strands c.place_of-place.result
    c.try_place-least.result) inv.taken now.least in
    record {
      aside = now.aside;
      taken = now.taken ∙ inv.taken;
      price = omega (arith, ints, now.price, now.less, inv.less, positive, c.requires.most);
      least = λ p lt. elim (cases_eq (number p) c.loop-number.number) [
        | inl same ↦
            let place : c.place_of-place.result ≡ p = number-injective c.place_of-place.result p
            (c.place_of-place.ensures ∙ sym same) in
            pay_less net w taken strands p _ c.try_place-least.result
            (omega (arith, ints, now.price, now.less, inv.less, positive, c.requires.most))
            (subst (λ (q : Place). PayAtLeast net w taken strands q c.try_place-least.result) place
            here)
        | inr other ↦ pay_less net w taken strands p _ _
            (omega (arith, ints, now.price, now.less, inv.less, positive, c.requires.most))
            (inv.least p (omega (arith, lt, other)))
      ];
      less = omega (arith, ints, now.price, now.less, inv.less, positive, c.requires.most);
      same = λ e.
          now.same (omega (
            arith,
            ints,
            e,
            now.price,
            now.less,
            inv.less,
            positive,
            c.requires.most,
          ))
          ∙ inv.same (omega (
            arith,
            ints,
            e,
            now.price,
            now.less,
            inv.less,
            positive,
            c.requires.most,
          ));
      others = λ s apart. now.others s apart ∙ inv.others s apart;
      family = now.family ∙ inv.family;
      reserved = now.reserved;
    }

pub returns-then-not-are_tied-clause-least : goal.returns-then-not-are_tied-clause-least
returns-then-not-are_tied-clause-least g c = λ p.
    let net = c.args.net.now in
    let w = weights_of c.args.model.now in
    let strands = c.args.strands.now in
    let now = c.try_place.ensures in
    let positive = sum_positive net w c.try_place.new.routes strands in
    pay_less net w c.args.spare.now.taken strands p _ c.try_place.result
    (omega (arith, ints, now.price, now.less, positive, c.requires.most))
    (pay_untied net w c.args.spare.now.taken strands p Mem c.try_place.result
    (c.are_tied.ensures c.if-not-are_tied.true) now.least)

pub returns-clause-least : goal.returns-clause-least
returns-clause-least g c = λ p.
    let below = number_below p in
    c.loop-number.invariant.least p (omega (arith, below, c.loop-number-test.false))
