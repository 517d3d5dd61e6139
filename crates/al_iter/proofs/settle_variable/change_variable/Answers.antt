use Rattle.std.proofs.Common.{arith}
use Rattle.std.proofs.lemmas.Int.{ints}
use Rattle.net_cost.specs.Models.{weights_of}
use Rattle.al_iter.specs.SettleState.{AreOfOne}
use Rattle.al_iter.proofs.SettleShut.{pay_less}
use Rattle.al_iter.proofs.SettleVariable.{sum_positive, nothing_at, none_at, lower_cost}
use Rattle.al_iter.proofs.SettleVariable.{agree_of_variable}
use Rattle.al_iter.proofs.settle_variable.change_variable.Goals as goal

pub returns-then-price-eq0-clause-settled : goal.returns-then-price-eq0-clause-settled
returns-then-price-eq0-clause-settled g c = λ _ p.
    nothing_at c.args.net.now (weights_of c.args.model.now) c.strands_of-strands.result.now
    c.args.var c.args.routes.now c.strands_of-strands.ensures
    (omega (
      arith,
      ints,
      c.if-price-eq0.true,
      c.sum_now-price.ensures.value,
      c.sum_now-price.ensures.least,
      c.sum_now-price.ensures.most,
    )) p

pub returns-then-least-price-clause-state : goal.returns-then-least-price-clause-state
returns-then-least-price-clause-state g c =
    let aside = c.try_places-least.ensures.aside in
    record {
      room = record {
        taken = c.take_paths.ensures.room;
        routes = aside.room.routes;
        zero = aside.room.zero;
      };
      are_routes = aside.are_routes;
      admitted = aside.admitted;
      marked = c.take_paths.ensures.marked;
    }

pub returns-then-least-price-clause-lower : goal.returns-then-least-price-clause-lower
returns-then-least-price-clause-lower g c = λ _.
    let net = c.args.net.now in
    let w = weights_of c.args.model.now in
    let strands = c.strands_of-strands.result.now in
    let one : AreOfOne net strands =
    record { variable = c.args.var; are = c.strands_of-strands.ensures } in
    let old = c.args.routes.now in
    let new = c.try_places-least.new.routes in
    let has = c.requires.state.are_routes in
    let now = c.try_places-least.ensures in
    let positive = sum_positive net w new strands in
    lower_cost net w strands one old new has now.aside.are_routes
    (agree_of_variable net c.requires.net strands one old new has now.aside.are_routes now.others)
    (omega (
      arith,
      ints,
      c.if-least-price.true,
      now.price,
      now.less,
      positive,
      c.sum_now-price.ensures.value,
      c.sum_now-price.ensures.least,
      c.sum_now-price.ensures.most,
    ))

pub returns-clause-state : goal.returns-clause-state
returns-clause-state g c =
    let aside = c.try_places-least.ensures.aside in
    record {
      room = record {
        taken = c.take_paths.ensures.room;
        routes = aside.room.routes;
        zero = aside.room.zero;
      };
      are_routes = aside.are_routes;
      admitted = aside.admitted;
      marked = c.take_paths.ensures.marked;
    }

pub returns-clause-same : goal.returns-clause-same
returns-clause-same g c = λ _.
    let net = c.args.net.now in
    let w = weights_of c.args.model.now in
    let now = c.try_places-least.ensures in
    let positive = sum_positive net w c.try_places-least.new.routes
    c.strands_of-strands.result.now in
    now.same (omega (
      arith,
      ints,
      c.if-least-price.false,
      now.price,
      now.less,
      positive,
      c.sum_now-price.ensures.least,
      c.sum_now-price.ensures.most,
    ))

pub returns-clause-settled : goal.returns-clause-settled
returns-clause-settled g c = λ _ p.
    let net = c.args.net.now in
    let w = weights_of c.args.model.now in
    let strands = c.strands_of-strands.result.now in
    let one : AreOfOne net strands =
    record { variable = c.args.var; are = c.strands_of-strands.ensures } in
    let now = c.try_places-least.ensures in
    let positive = sum_positive net w c.try_places-least.new.routes strands in
    none_at net w strands one c.args.routes.now c.requires.state.are_routes
    c.release_paths.new.taken c.release_paths.ensures.marked p
    (pay_less net w c.release_paths.new.taken strands p _ c.try_places-least.result
    (omega (
      arith,
      ints,
      c.if-least-price.false,
      now.price,
      now.less,
      positive,
      c.sum_now-price.ensures.value,
      c.sum_now-price.ensures.least,
      c.sum_now-price.ensures.most,
    ))
    (now.least p))
