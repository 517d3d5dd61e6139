use Rattle.std.proofs.Common.{◌<◌, ◌∙◌, Some, None, length, length-set, subst, arith}
use Rattle.pra_list.proofs.Growing.{stored}
use Rattle.pra_base.specs.Places.{place_at}
use Rattle.net_cost.specs.Models.{weights_of}
use Rattle.net_plain.specs.Rests.{IsRest}
use Rattle.net_plain.proofs.Filled.{rests_of}
use Rattle.net_plain.proofs.LeastRests.{rest_more}
use Rattle.net_plain.proofs.steps.rests_before.Goals as goal

pub loop-at-preserved : goal.loop-at-preserved
loop-at-preserved g c =
    let net = c.args.net.now in
    let w = weights_of c.args.model.now in
    let prices = c.args.prices.now in
    let ends = c.args.ends in
    let taken = c.args.taken.now in
    let s = c.args.spot.strand in
    let l = c.args.spot.layer in
    let at = c.loop-at.at in
    let before = c.loop-at.before in
    let inv = c.loop-at.invariant in
    let lt : at < length before = omega arith in
    let row = c.row_of-row.ensures in
    let rest = rest_more net w prices ends taken s l (Some c.place_at.result) c.args.rests.now
    c.row_of-row.result c.requires.spot.before c.requires.rests.each row.each c.least_from.result
    c.least_from.ensures in record {
      long = length-set before at c.least_from.result ∙ inv.long;
      each = stored (λ k o. IsRest net w prices ends taken s l (Some (place_at k)) o) before at
          c.least_from.result None lt inv.each
          (subst (λ q. IsRest net w prices ends taken s l (Some q) c.least_from.result)
          c.place_at.ensures rest);
    }

pub returns : goal.returns
returns g c =
    let inv = c.loop-at.invariant in
    rests_of c.args.net.now c.requires.net c.args.prices.now c.requires.prices
    (weights_of c.args.model.now) c.requires.kept.valid c.args.ends c.args.taken.now
    c.args.spot.strand c.requires.spot.strand c.args.spot.layer c.loop-at.before inv.long
    (λ k lt. inv.each k (omega arith))
