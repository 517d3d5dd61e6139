use Rattle.std.proofs.Common.{◌<◌, ◌+◌, ◌-◌, [], length, get_or, refl, ◌∙◌, sym}
use Rattle.std.proofs.Common.{subst, arith}
use Rattle.std.proofs.lemmas.Int.{ints}
use Rattle.net_cost.specs.Models.{weights_of}
use Rattle.net_form.specs.declared.taken.Taken.{Taken}
use Rattle.net_dual.specs.Paths.{path_in}
use Rattle.al_iter.specs.SettleSums.{IsDraft, MayGoTied}
use Rattle.al_iter.proofs.SettleShut.{shut_pay, pay_nothing}
use Rattle.al_iter.proofs.SettleSums.{pays_something}
use Rattle.al_iter.proofs.SettleUsers.{pay_more, pay_skip, pay_rest}
use Rattle.al_iter.proofs.settle_place.users_pay.Goals as goal

pub loop-at-init : goal.loop-at-init
loop-at-init g c = record {
  spare = c.requires.spare;
  taken = refl;
  pay = pay_nothing c.args.net.now (weights_of c.args.model.now) c.args.spare.now.taken []
      c.args.place;
  least = omega (arith, ints);
  less = omega (arith, ints, c.requires.least, c.requires.most);
  family = refl;
  reserved = c.requires.work;
}

pub loop-at-preserved-then-not-has_extras : goal.loop-at-preserved-then-not-has_extras
loop-at-preserved-then-not-has_extras g c =
    let inv = c.loop-at.invariant in
    record {
      spare = inv.spare;
      taken = inv.taken;
      pay = pay_skip c.args.net.now (weights_of c.args.model.now) c.args.spare.now.taken
          c.args.strands.now c.requires.strands c.args.place c.loop-at.at (omega arith) inv.pay;
      least = inv.least;
      less = inv.less;
      family = inv.family;
      reserved = inv.reserved;
    }

pub returns-in_default-clause-pay : goal.returns-in_default-clause-pay
returns-in_default-clause-pay g c = λ _.
    shut_pay c.args.net.now (weights_of c.args.model.now) c.args.spare.now.taken
    c.args.strands.now c.args.place c.args.price (omega (arith, ints, c.requires.least))
    (record {
      at = c.loop-at.at;
      within = omega arith;
      none = λ ps may. c.draft_strand.ensures.none c.in_default.is ps
          (subst (λ (t : Taken). MayGoTied c.args.net.now t c.args.place
          (get_or c.args.strands.now c.loop-at.at 0) ps)
          (sym c.loop-at.invariant.taken) may);
    })

pub returns-then-total-price-clause-pay : goal.returns-then-total-price-clause-pay
returns-then-total-price-clause-pay g c = λ _.
    let net = c.args.net.now in
    let w = weights_of c.args.model.now in
    let taken = c.args.spare.now.taken in
    let strands = c.args.strands.now in
    let i = c.loop-at.at in
    let s = get_or strands i 0 in
    let lt : i < length strands = omega arith in
    let inv = c.loop-at.invariant in
    let now = c.in-Some.ensures in
    let new = c.draft_strand.new.spare.routes in
    let draft = subst (λ (t : Taken). IsDraft net w t c.args.place new s) inv.taken
    (now.draft refl) in
    let some = pays_something net w s (path_in new s) in
    pay_rest net w taken strands c.requires.strands c.args.place (length strands - (i + 1)) (i + 1)
    (omega (arith, lt))
    (pay_more net w taken strands c.requires.strands c.args.place i c.in-Some.cost lt
    (λ ps may. let le = draft.least ps may in omega (arith, ints, now.cost, le)) inv.pay
    (omega (
      arith,
      ints,
      now.cost,
      inv.least,
      inv.less,
      some,
      c.requires.most,
      c.if-total-price.true,
    )))

pub loop-at-preserved : goal.loop-at-preserved
loop-at-preserved g c =
    let net = c.args.net.now in
    let w = weights_of c.args.model.now in
    let taken = c.args.spare.now.taken in
    let strands = c.args.strands.now in
    let i = c.loop-at.at in
    let s = get_or strands i 0 in
    let lt : i < length strands = omega arith in
    let inv = c.loop-at.invariant in
    let now = c.in-Some.ensures in
    let new = c.draft_strand.new.spare.routes in
    let draft = subst (λ (t : Taken). IsDraft net w t c.args.place new s) inv.taken
    (now.draft refl) in
    let some = pays_something net w s (path_in new s) in
    record {
      spare = now.spare;
      taken = now.taken ∙ inv.taken;
      pay = pay_more net w taken strands c.requires.strands c.args.place i c.in-Some.cost lt
          (λ ps may. let le = draft.least ps may in omega (arith, ints, now.cost, le)) inv.pay
          (omega (arith, ints, now.cost, inv.least, inv.less, some, c.requires.most));
      least = omega (arith, ints, now.cost, inv.least, inv.less, some, c.requires.most);
      less = omega (
        arith,
        ints,
        now.cost,
        inv.least,
        inv.less,
        some,
        c.requires.most,
        c.if-total-price.false,
      );
      family = now.family ∙ inv.family;
      reserved = now.reserved;
    }
