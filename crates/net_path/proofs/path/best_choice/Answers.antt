use Rattle.std.proofs.Common.{◌≡◌, arith}
use Rattle.pra_base.specs.Places.{number}
use Rattle.net_path.specs.Choices.{IsBestChoice}
use Rattle.net_path.specs.Leaving.{leaving_price}
use Rattle.net_path.proofs.BestChoices.{best_of_none, best_more}
use Rattle.net_path.proofs.LeavingPlaces.{best_leaving}
use Rattle.net_path.proofs.path.best_choice.Goals as goal

pub loop-number-init : goal.loop-number-init
loop-number-init g c = best_of_none _ _ _ _ c.choose-best.ensures

pub loop-number-preserved : goal.loop-number-preserved
loop-number-preserved g c = best_more _ _ _ _ _ _ _ c.loop-number.invariant c.place_of.ensures
    c.choose.ensures c.better-best.ensures.one c.better-best.ensures.other c.better-best.ensures.met

pub returns : goal.returns
returns g c =
    let end : c.loop-number.number ≡ 14 = omega arith in
    let costs = c.args.row.now.costs in
    let best = c.loop-number.best in
    let all : IsBestChoice (leaving_price c.leave-leaving.result) costs 14 best =
    rw end at c.loop-number.invariant in
    best_leaving c.args.ways.now (number c.args.from) c.leave-leaving.result
    c.leave-leaving.ensures.is costs best all
