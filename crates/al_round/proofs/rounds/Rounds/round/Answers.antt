use Rattle.std.proofs.Common.{Option, length, refl, sym, subst, ◌∙◌}
use Rattle.std.specs.Prelude.{IfSome, OnOk}
use Rattle.net_cost.specs.Models.{weights_of}
use Rattle.net_form.specs.declared.routes.Routes.{Routes}
use Rattle.net_form.specs.Flow.{AreRoutes}
use Rattle.net_dual.specs.Step.{IsNext}
use Rattle.al_round.specs.Rounds.{IsRoundRoom}
use Rattle.al_round.specs.declared.room.RoundRoom.{RoundRoom}
use Rattle.al_round.proofs.NextRound.{prices_in_range, family_is_routes}
use Rattle.al_round.proofs.GoneOn.{stands_there, stands_still, still_err}
use Rattle.al_round.proofs.rounds.Rounds.round.Goals as goal

pub room_for-requires-clause-left : goal.room_for-requires-clause-left
room_for-requires-clause-left g c =
    subst (λ (room : Option RoundRoom). IfSome room (IsRoundRoom c.args.net.now))
    (sym c.take-left.ensures.value) c.requires.rounds.are.room

pub room_for-requires-clause-prices : goal.room_for-requires-clause-prices
room_for-requires-clause-prices g c = prices_in_range c.args.net.now
    (weights_of c.args.model.now) c.args.self.now c.requires.rounds.stages c.requires.rounds.are

pub returns-in_err-room-clause-gone_on : goal.returns-in_err-room-clause-gone_on
returns-in_err-room-clause-gone_on g c = λ stages are.
    let r = c.args.self.now in
    stands_still c.args.net.now (weights_of c.args.model.now) stages r are r.lines r.work
    c.take-left.new.self refl are.work refl
    (subst (λ (room : Option RoundRoom). IfSome room (IsRoundRoom c.args.net.now))
    (sym c.take-left.ensures.after) tt)

pub step_prices-requires-clause-prices : goal.step_prices-requires-clause-prices
step_prices-requires-clause-prices g c = prices_in_range c.args.net.now
    (weights_of c.args.model.now) c.args.self.now c.requires.rounds.stages c.requires.rounds.are

pub step_prices-requires-clause-family : goal.step_prices-requires-clause-family
step_prices-requires-clause-family g c = subst (AreRoutes c.args.net.now) (sym c.family.ensures)
    (family_is_routes c.args.net.now (weights_of c.args.model.now) c.args.self.now
    c.requires.rounds.stages c.requires.rounds.are)

pub returns-in_err-tried-clause-gone_on : goal.returns-in_err-tried-clause-gone_on
returns-in_err-tried-clause-gone_on g c = λ stages are.
    let r = c.args.self.now in
    stands_still c.args.net.now (weights_of c.args.model.now) stages r are r.lines
    c.try_prices.new.work c.take-left.new.self refl c.try_prices.ensures.reserved
    c.try_prices.ensures.family
    (subst (λ (room : Option RoundRoom). IfSome room (IsRoundRoom c.args.net.now))
    (sym c.take-left.ensures.after) tt)

pub returns-in_err-tried-clause-rounds : goal.returns-in_err-tried-clause-rounds
returns-in_err-tried-clause-rounds g c =
    let r = c.args.self.now in
    let stages = c.requires.rounds.stages in
    record {
      stages = stages;
      are = stands_there c.args.net.now (weights_of c.args.model.now) stages r
          c.requires.rounds.are r.lines c.try_prices.new.work c.take-left.new.self refl
          c.try_prices.ensures.reserved c.try_prices.ensures.family
          (subst (λ (room : Option RoundRoom). IfSome room (IsRoundRoom c.args.net.now))
          (sym c.take-left.ensures.after) tt);
    }

pub finish-requires-clause-rounds : goal.finish-requires-clause-rounds
finish-requires-clause-rounds g c =
    let r = c.args.self.now in
    let stages = c.requires.rounds.stages in
    record {
      stages = stages;
      are = stands_there c.args.net.now (weights_of c.args.model.now) stages r
          c.requires.rounds.are r.lines c.try_prices.new.work c.take-left.new.self refl
          c.try_prices.ensures.reserved c.try_prices.ensures.family
          (subst (λ (room : Option RoundRoom). IfSome room (IsRoundRoom c.args.net.now))
          (sym c.take-left.ensures.after) tt);
    }

pub returns-clause-gone_on : goal.returns-clause-gone_on
returns-clause-gone_on g c = λ stages are.
    let r = c.args.self.now in
    c.finish.ensures.gone_on stages
    (stands_there c.args.net.now (weights_of c.args.model.now) stages r are r.lines
    c.try_prices.new.work c.take-left.new.self refl c.try_prices.ensures.reserved
    c.try_prices.ensures.family
    (subst (λ (room : Option RoundRoom). IfSome room (IsRoundRoom c.args.net.now))
    (sym c.take-left.ensures.after) tt))

pub returns-clause-next : goal.returns-clause-next
returns-clause-next g c =
    let r = c.args.self.now in
    subst (λ (family : Routes). OnOk c.finish.result (IsNext c.args.net.now family
    (length r.lines) r.prices c.finish.new.self.prices)) c.try_prices.ensures.family
    c.finish.ensures.next

pub returns-clause-same : goal.returns-clause-same
returns-clause-same g c = still_err c.finish.result (λ same. record {
  best = same.best;
  prices = same.prices;
  best_prices = same.best_prices;
  family = same.family ∙ c.try_prices.ensures.family;
  lines = same.lines;
  tried = same.tried;
}) c.finish.ensures.same
