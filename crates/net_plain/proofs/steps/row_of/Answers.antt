use Rattle.std.proofs.Common.{◌≡◌, ◌^◌, ◌<◌, ◌∙◌, None, length, length-set, ap, arith}
use Rattle.pra_list.proofs.Growing.{stored}
use Rattle.pra_base.specs.Places.{place_at}
use Rattle.net_cost.specs.Models.{weights_of}
use Rattle.net_dual.specs.Leasts.{cost_at}
use Rattle.net_plain.specs.Rows.{there}
use Rattle.net_plain.proofs.Filled.{set_within}
use Rattle.net_plain.proofs.steps.row_of.Goals as goal

pub loop-at-preserved : goal.loop-at-preserved
loop-at-preserved g c =
    let net = c.args.net.now in
    let w = weights_of c.args.model.now in
    let prices = c.args.prices.now in
    let ends = c.args.ends in
    let taken = c.args.taken.now in
    let s = c.args.spot.strand in
    let l = c.args.spot.layer in
    let rests = c.args.rests.now in
    let at = c.loop-at.at in
    let row = c.loop-at.row in
    let inv = c.loop-at.invariant in
    let lt : at < length row = omega arith in record {
      long = length-set row at c.there.result ∙ inv.long;
      each = stored
          (λ k o. o ≡ there net w prices ends taken s l (place_at k) (cost_at rests k)) row at
          c.there.result None lt inv.each
          (c.there.ensures.value
          ∙ ap (λ q. there net w prices ends taken s l q (cost_at rests at)) c.place_at.ensures);
      within = set_within (2 ^ 108) row at c.there.result lt inv.within c.there.ensures.within;
    }
