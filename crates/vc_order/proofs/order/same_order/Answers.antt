use Rattle.std.proofs.Common.{◌≡◌, sym, ap, ◌∙◌, subst, arith}
use Rattle.std.specs.List.{range_with_len}
use Rattle.vc_order.specs.Order.{IsOrder}
use Rattle.vc_order.proofs.Orders as orders
use Rattle.vc_order.proofs.order.same_order.Goals as goal

pub loop-b-preserved : goal.loop-b-preserved
loop-b-preserved c = (
  c.in_ok-push.ensures.items ∙ orders.one_more c.loop-b.to.items c.loop-b.b c.loop-b.invariant.0,
  c.in_ok-push-2.ensures.items ∙ orders.one_more c.loop-b.from.items c.loop-b.b
      c.loop-b.invariant.1,
)

pub returns : goal.returns
returns c =
    let all : c.loop-b.b ≡ c.args.count = omega (arith, c.loop-b-test.false, c.loop-b.auto.b-end) in
    let to : c.loop-b.to.items ≡ range_with_len 0 c.args.count = c.loop-b.invariant.0
    ∙ ap (range_with_len 0) all in
    let from : c.loop-b.from.items ≡ range_with_len 0 c.args.count = c.loop-b.invariant.1
    ∙ ap (range_with_len 0) all in
    subst (λ z. IsOrder c.args.count z c.loop-b.from.items) (sym to)
    (subst (λ z. IsOrder c.args.count (range_with_len 0 c.args.count) z) (sym from)
    (orders.same_is c.args.count))
