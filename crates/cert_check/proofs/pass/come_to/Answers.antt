use Rattle.std.proofs.Common.{◌∙◌, ◌^◌, ap, sym}
use Rattle.pra_base.specs.Places.{place_at}
use Rattle.net_cost.specs.Models.{weights_of}
use Rattle.cert_check.specs.Pass.{via}
use Rattle.cert_check.proofs.pass.come_to.Goals as goal

pub loop-at-preserved : goal.loop-at-preserved
loop-at-preserved g c =
    let net = c.args.net.now in
    let w = weights_of c.args.model.now in
    let s = c.args.spot.strand in
    let l = c.args.spot.layer in
    let row = c.args.row.now in
    let to = c.args.to in record {
      least = c.lesser-least.ensures.least (λ k. via net w s l row (place_at k) to) c.loop-at.at
          c.loop-at.invariant.least
          (ap (λ p. via net w s l row p to) (sym c.place_at.ensures) ∙ sym c.via.ensures.value);
      within = c.lesser-least.ensures.within (2 ^ 61) c.loop-at.invariant.within
          c.via.ensures.within;
    }
