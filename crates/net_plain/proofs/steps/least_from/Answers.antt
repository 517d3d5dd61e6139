use Rattle.std.proofs.Common.{◌≡◌, ◌∙◌, ap, sym, subst, arith}
use Rattle.pra_base.specs.Places.{place_count, place_at}
use Rattle.net_cost.specs.Models.{weights_of}
use Rattle.net_dual.specs.Leasts.{IsLeastOf, cost_at}
use Rattle.net_plain.specs.Rows.{coming}
use Rattle.net_plain.proofs.steps.least_from.Goals as goal

pub loop-at-preserved : goal.loop-at-preserved
loop-at-preserved g c =
    let net = c.args.net.now in
    let w = weights_of c.args.model.now in
    let s = c.args.spot.strand in
    let l = c.args.spot.layer in
    let p = c.args.from in
    let row = c.args.row.now in
    let at = c.loop-at.at in
    c.lesser-least.ensures (λ k. coming net w s l p (place_at k) (cost_at row k)) at
    c.loop-at.invariant
    (ap (λ q. coming net w s l p q (cost_at row at)) (sym c.place_at.ensures)
    ∙ sym c.coming.ensures)

pub returns : goal.returns
returns g c =
    let all : c.loop-at.at ≡ place_count = omega arith in
    subst (λ n. IsLeastOf (λ k. coming c.args.net.now (weights_of c.args.model.now)
    c.args.spot.strand c.args.spot.layer c.args.from (place_at k) (cost_at c.args.row.now k)) n
    c.loop-at.least) all c.loop-at.invariant
