use Rattle.std.proofs.Common.{◌∙◌, None, length-set, sym, subst, arith}
use Rattle.pra_list.proofs.Growing.{stored}
use Rattle.pra_base.specs.Places.{place_at}
use Rattle.net_cost.specs.Models.{weights_of}
use Rattle.net_dual.specs.Priced.{edge_price}
use Rattle.cert_check.specs.Pass.{IsReached}
use Rattle.cert_check.proofs.Rows.{next_paid_at, row_of}
use Rattle.cert_check.proofs.pass.next_row.Goals as goal

pub loop-at-preserved : goal.loop-at-preserved
loop-at-preserved g c =
    let net = c.args.net.now in
    let w = weights_of c.args.model.now in
    let prices = c.args.tolls.now.prices in
    let s = c.args.spot.strand in
    let l = c.args.spot.layer in
    let at = c.loop-at.at in
    let inv = c.loop-at.invariant in
    let q = c.place_at-to.result in
    let best = c.come_to.result in
    let reached = next_paid_at net w prices s l c.args.row.now c.requires.row q best
    c.come_to.ensures.least in record {
      long = length-set c.loop-at.next at c.pay.result ∙ inv.long;
      each = stored (λ k o. IsReached net (edge_price net w prices) s l (place_at k) o)
          c.loop-at.next at c.pay.result None (omega arith) inv.each
          (subst (λ q. IsReached net (edge_price net w prices) s l q c.pay.result)
          c.place_at-to.ensures
          (subst (IsReached net (edge_price net w prices) s l q) (sym c.pay.ensures) reached));
    }

pub returns-clause-row : goal.returns-clause-row
returns-clause-row g c =
    let inv = c.loop-at.invariant in
    row_of c.args.net.now (weights_of c.args.model.now) c.args.tolls.now.prices c.args.spot.strand
    c.requires.net c.requires.kept.valid c.requires.tolls.prices c.requires.spot.strand
    c.args.spot.layer c.requires.spot.before c.loop-at.next inv.long
    (λ k lt. inv.each k (omega arith))
