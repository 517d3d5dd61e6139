use Rattle.std.proofs.Common.{◌≡◌, ◌<◌, ◌≤◌, length, sym, ap, ◌∙◌, subst, arith}
use Rattle.std.specs.List.{swap}
use Rattle.vc_order.specs.Order.{IsOrder, number_at, place_in}
use Rattle.vc_order.proofs.Listings.{number_read, listed_within, next_place, next_brought}
use Rattle.vc_order.proofs.Listings.{first_place}
use Rattle.vc_order.proofs.order.listed_order.Goals as goal

pub loop-c-init : goal.loop-c-init
loop-c-init c = (
  c.in_ok-order.ensures,
  c.in_ok-order.ensures.places,
  λ k lt. first_place c.args.count c.args.ids.now c.requires c.in_ok-order.order.to.items
      c.in_ok-order.order.from.items c.in_ok-order.ensures k lt,
)

pub place_of-at-requires-clause-there : goal.place_of-at-requires-clause-there
place_of-at-requires-clause-there c =
    let lt : c.loop-c.c < length c.args.ids.now = omega (arith, c.loop-c-test.true) in
    let within : number_at c.args.ids.now c.loop-c.c < length c.loop-c.order.to.items =
    omega (
      arith,
      listed_within c.args.count c.args.ids.now c.requires c.loop-c.c
          (omega (arith, lt, c.requires.many)),
      c.loop-c.invariant.1,
    ) in
    subst (λ z. z < length c.loop-c.order.to.items)
    (sym (number_read c.args.ids.now c.loop-c.c _ lt)) within

pub exchange-requires-clause-second : goal.exchange-requires-clause-second
exchange-requires-clause-second c =
    let lt : c.loop-c.c < length c.args.ids.now = omega (arith, c.loop-c-test.true) in
    let at : c.place_of-at.result ≡ place_in c.loop-c.order.to.items
    (number_at c.args.ids.now c.loop-c.c) = c.place_of-at.ensures.is
    ∙ ap (place_in c.loop-c.order.to.items) (number_read c.args.ids.now c.loop-c.c _ lt) in
    let late : c.loop-c.c ≤ place_in c.loop-c.order.to.items (number_at c.args.ids.now c.loop-c.c) =
    next_place c.args.count c.args.ids.now c.requires c.loop-c.order.to.items
    c.loop-c.order.from.items c.loop-c.invariant.0 c.loop-c.c
    (omega (arith, lt, c.requires.many)) c.loop-c.invariant.2 in
    omega (arith, at, late, c.loop-c.auto.c)

pub loop-c-preserved : goal.loop-c-preserved
loop-c-preserved c =
    let lt : c.loop-c.c < length c.args.ids.now = omega (arith, c.loop-c-test.true) in
    let to = c.loop-c.order.to.items in
    let from = c.loop-c.order.from.items in
    let at : c.place_of-at.result ≡ place_in to (number_at c.args.ids.now c.loop-c.c) =
    c.place_of-at.ensures.is ∙ ap (place_in to) (number_read c.args.ids.now c.loop-c.c _ lt) in
    let swapped : c.exchange.new.order.from.items ≡ swap from c.loop-c.c
    (place_in to (number_at c.args.ids.now c.loop-c.c)) = c.exchange.ensures.swapped
    ∙ ap (swap from c.loop-c.c) at in (
      subst (λ n. IsOrder n c.exchange.new.order.to.items c.exchange.new.order.from.items)
          c.loop-c.invariant.1 c.exchange.ensures.is,
      c.exchange.ensures.count ∙ c.loop-c.invariant.1,
      next_brought c.args.count c.args.ids.now c.requires to from c.loop-c.invariant.0 c.loop-c.c
          (omega (arith, lt, c.requires.many)) c.loop-c.invariant.2 c.exchange.new.order.from.items
          swapped,
    )
