use Rattle.std.proofs.Common.{refl, sym, subst, arith, ◌∙◌, ◌≡◌, false}
use Rattle.std.specs.Prelude.{Result, Ok, Err, OnOk}
use Rattle.std.specs.Result.{is_err}
use Rattle.std.proofs.lemmas.Bool.{false≢true}
use Rattle.net_cost.specs.Models.{weights_of}
use Rattle.al_iter.specs.LaidSoFar.{IsLaidSoFar, routes_of}
use Rattle.al_iter.proofs.LaidNext.{none_so_far, all_laid, all_routes, all_admitted}
use Rattle.al_iter.proofs.laying.lay_in.Goals as goal

pub loop-at-init : goal.loop-at-init
loop-at-init g c =
    let net = c.args.net.now in
    let w = weights_of c.args.model.now in
    let taken = c.args.room.taken in
    record {
      laid = subst (λ ps. IsLaidSoFar net w c.args.prices.now c.args.plan.now c.args.order.now 0
          (routes_of ps) taken) (sym c.requires.room.paths)
          (none_so_far net c.requires.net w c.args.prices.now c.args.plan.now c.args.order.now
          taken c.requires.room.taken c.requires.room.nothing);
      family = refl;
      reserved = c.requires.work;
    }

pub returns-clause-laid : goal.returns-clause-laid
returns-clause-laid g c =
    let past = c.loop-at-test.false in
    all_laid c.args.net.now c.requires.net (weights_of c.args.model.now) c.args.prices.now
    c.args.plan.now c.args.order.now c.requires.order c.loop-at.at (routes_of c.loop-at.paths)
    c.loop-at.taken (omega (arith, past)) c.loop-at.invariant.laid

pub returns-clause-routes : goal.returns-clause-routes
returns-clause-routes g c =
    let past = c.loop-at-test.false in
    all_routes c.args.net.now c.requires.net (weights_of c.args.model.now) c.args.prices.now
    c.args.plan.now c.args.order.now c.requires.order c.loop-at.at (routes_of c.loop-at.paths)
    c.loop-at.taken (omega (arith, past)) c.loop-at.invariant.laid

pub returns-clause-admitted : goal.returns-clause-admitted
returns-clause-admitted g c =
    let past = c.loop-at-test.false in
    all_admitted c.args.net.now c.requires.net (weights_of c.args.model.now) c.args.prices.now
    c.args.plan.now c.args.order.now c.requires.order c.loop-at.at (routes_of c.loop-at.paths)
    c.loop-at.taken (omega (arith, past)) c.loop-at.invariant.laid c.requires.many

when_ok : {T E P : Type 0} (r : Result T E) → is_err r ≡ false → OnOk r P → P
when_ok (Ok value) is_ok laid = laid
when_ok (Err fault) is_ok laid = absurd (false≢true (sym is_ok))

pub loop-at-preserved : goal.loop-at-preserved
loop-at-preserved g c =
    let next = c.lay_next-next in
    record {
      laid = when_ok next.result (sym c.is_err.ensures.value ∙ c.if-is_err.false)
          next.ensures.laid;
      family = next.ensures.family ∙ c.loop-at.invariant.family;
      reserved = next.ensures.reserved;
    }
