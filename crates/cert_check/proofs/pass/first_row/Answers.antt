use Rattle.std.proofs.Common.{◌≡◌, ◌∙◌, Some, None, length-set, ap, sym, subst, arith}
use Rattle.pra_list.proofs.Growing.{stored}
use Rattle.pra_base.specs.Places.{place_at}
use Rattle.net_cost.specs.Models.{weights_of}
use Rattle.net_dual.specs.Priced.{edge_price}
use Rattle.cert_check.specs.Tolls.{way_toll}
use Rattle.cert_check.specs.Pass.{IsReached, paid}
use Rattle.cert_check.proofs.Rows.{first_paid_at, row_of}
use Rattle.cert_check.proofs.pass.first_row.Goals as goal

pub loop-at-preserved : goal.loop-at-preserved
loop-at-preserved g c =
    let net = c.args.net.now in
    let w = weights_of c.args.model.now in
    let prices = c.args.tolls.now.prices in
    let s = c.args.spot.strand in
    let l = c.args.spot.layer in
    let at = c.loop-at.at in
    let inv = c.loop-at.invariant in
    let is : c.begin.result ≡ paid net w prices s l (place_at at)
    (Some (way_toll net w s l None (place_at at)))
    = c.begin.ensures ∙ ap (λ p. paid net w prices s l p (Some (way_toll net w s l None p)))
    c.place_at.ensures in record {
      long = length-set c.loop-at.row at c.begin.result ∙ inv.long;
      each = stored (λ k o. IsReached net (edge_price net w prices) s l (place_at k) o)
          c.loop-at.row at c.begin.result None (omega arith) inv.each
          (subst (IsReached net (edge_price net w prices) s l (place_at at)) (sym is)
          (first_paid_at net w prices s l c.requires.first (place_at at)));
    }

pub returns-clause-row : goal.returns-clause-row
returns-clause-row g c =
    let inv = c.loop-at.invariant in
    row_of c.args.net.now (weights_of c.args.model.now) c.args.tolls.now.prices c.args.spot.strand
    c.requires.net c.requires.kept.valid c.requires.tolls.prices c.requires.spot.strand
    c.args.spot.layer c.requires.spot.before c.loop-at.row inv.long
    (λ k lt. inv.each k (omega arith))
